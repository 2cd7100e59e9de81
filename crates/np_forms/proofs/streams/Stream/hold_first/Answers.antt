use Rattle.std.proofs.Common.{List, ℕ, ap, subst, sym, ◌∙◌}
use Rattle.np_forms.proofs.Words.{AreClassed, StreamState, codes_of}
use Rattle.np_forms.proofs.StreamTextLemmas.{AreClassed-take, codes-take}
use Rattle.np_forms.proofs.streams.Stream.hold_first.Goals as goal

pub invariant_of-self : goal.invariant_of-self
invariant_of-self g c =
    let v = g.T.NormTable.model c.self.inside.table.now in
    subst (AreClassed v) (sym c.truncate.ensures.items) (AreClassed-take v c.args.count c.self.inside.held.pending.items c.self.invariant)

pub returns : goal.returns
returns g c =
    let s : StreamState = record { version = g.T.NormTable.model c.self.inside.table.now; form = c.self.inside.form; ready = c.self.inside.held.ready.items; pending = codes_of c.self.inside.held.pending.items } in
    rw (← c.self.view_is) (ap (λ (l : List ℕ). record s { pending = l }) (ap codes_of c.truncate.ensures.items ∙ codes-take c.args.count c.self.inside.held.pending.items))
