use Rattle.np_versions.proofs.Words.{AllWithin, cases_lt, both_ways, Composite, AreOrdered, pair_rank}
use Rattle.std.proofs.Common.{◌≡◌, ◌≤◌, length, ◌+◌, ◌-◌, ◌/◌, List, get_or, subst, arith, inl, inr}
use Rattle.np_versions.proofs.CompositeLemmas.{before_more, after_more, lists-place}
use Rattle.np_versions.proofs.pairs.Pairs.place.Goals as goal

pub loop-low-preserved-then-is_before : goal.loop-low-preserved-then-is_before
loop-low-preserved-then-is_before c =
    let at = c.loop-low.low + (c.loop-low.high - c.loop-low.low) / 2 in
    let order = subst (λ (xs : List Composite). AreOrdered xs) c.self.view_is c.self.invariant in
    let here = subst (λ (xs : List Composite). c.index.result.now ≡ get_or xs at c.index.result.now) c.self.view_is c.index.ensures in
    record {
      order = omega arith;
      fits = c.loop-low.invariant.fits;
      below = before_more c.args.self.now order at c.index.result.now _ (omega (arith, c.loop-low.invariant.fits)) here (c.is_before.ensures.0 c.if-is_before.true);
      above = c.loop-low.invariant.above;
    }

pub loop-low-preserved : goal.loop-low-preserved
loop-low-preserved c =
    let at = c.loop-low.low + (c.loop-low.high - c.loop-low.low) / 2 in
    let order = subst (λ (xs : List Composite). AreOrdered xs) c.self.view_is c.self.invariant in
    let here = subst (λ (xs : List Composite). c.index.result.now ≡ get_or xs at c.index.result.now) c.self.view_is c.index.ensures in
    record {
      order = omega arith;
      fits = omega (arith, c.loop-low.invariant.fits);
      below = c.loop-low.invariant.below;
      above = after_more c.args.self.now order at c.index.result.now _ (omega (arith, c.loop-low.invariant.fits)) here
          (elim (cases_lt _ _) [
            | inl less ↦ absurd (both_ways _ c.if-is_before.false (c.is_before.ensures.1 less))
            | inr more ↦ more
          ]);
    }

pub returns : goal.returns
returns c =
    let inv = c.loop-low.invariant in
    lists-place c.args.self.now (subst (λ (xs : List Composite). AreOrdered xs) c.self.view_is c.self.invariant) c.args.first c.args.second c.loop-low.low (omega arith) (omega arith) inv.below (subst (λ k. AllWithin (λ x. pair_rank c.args.first c.args.second ≤ pair_rank x.first x.second) c.args.self.now k (length c.args.self.now)) (omega (arith, inv.order)) inv.above)
