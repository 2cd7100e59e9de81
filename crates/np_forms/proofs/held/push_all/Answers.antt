use Rattle.std.proofs.Common.{◌≡◌, ◌∷◌, [], take, subst, sym}
use Rattle.np_forms.proofs.Words.{take_all, CodeAndClass, codes_of, with_class, Advances}
use Rattle.np_forms.proofs.OrderLemmas.{AreClassed-at, codes_next}
use Rattle.np_forms.proofs.HeldLemmas.{Advances-start, Advances-next}
use Rattle.np_forms.proofs.held.push_all.Goals as goal

pub loop-d-init : goal.loop-d-init
loop-d-init g c =
    record {
      advances = Advances-start (g.T.NormTable.model c.args.table.now) c.requires.sound c.args.composes c.args.held.now.ready.items (codes_of c.args.held.now.pending.items);
      classed = c.requires.classed;
    }

pub push-requires-clause-class : goal.push-requires-clause-class
push-requires-clause-class g c =
    let v = g.T.NormTable.model c.args.table.now in
    subst (λ (x : CodeAndClass). x ≡ with_class v x.code) (sym c.d-item.is) (AreClassed-at v c.args.parts.now c.loop-d.d-index _ c.loop-d-test.true c.requires.parts)

pub loop-d-preserved : goal.loop-d-preserved
loop-d-preserved g c =
    let v = g.T.NormTable.model c.args.table.now in
    let parts = c.args.parts.now in
    let i = c.loop-d.d-index in
    let x = c.d-item.result in
    record {
      advances = rw (codes_next parts i x c.loop-d-test.true c.d-item.is)
          (Advances-next v c.requires.sound c.args.composes (codes_of (take i parts)) (x.code ∷ []) _ _ _ _ _ _ c.loop-d.invariant.advances c.in_ok-push.ensures.ok);
      classed = c.in_ok-push.ensures.classed;
    }

pub returns : goal.returns
returns g c =
    let v = g.T.NormTable.model c.args.table.now in
    let done = c.loop-d.invariant.advances in
    record {
      ok = subst (λ l. Advances v c.args.composes (codes_of l) c.args.held.now.ready.items (codes_of c.args.held.now.pending.items) c.loop-d.held.ready.items (codes_of c.loop-d.held.pending.items)) (take_all c.loop-d.d-index c.args.parts.now c.loop-d-test.false) done;
      classed = c.loop-d.invariant.classed;
      ready = (done.more, done.ready_is);
    }
