use Rattle.std.proofs.Common.{take}
use Rattle.np_forms.proofs.Words.{AreClassed, codes_of, Advances}
use Rattle.np_forms.proofs.held.push_all.Given as goal

abbrev pub invariant-loop-d : goal.invariant-loop-d
invariant-loop-d g l =
    let v = g.T.NormTable.model l.table in
    record {
      advances : Advances v l.composes (codes_of (take l.d-index l.parts)) l.fn.held.ready.items (codes_of l.fn.held.pending.items) l.held.ready.items (codes_of l.held.pending.items);
      classed : AreClassed v l.held.pending.items;
    }
