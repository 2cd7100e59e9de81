use Rattle.std.proofs.Common.{IfSome, subst, sym, arith, inl, inr}
use Rattle.np_versions.proofs.Words.{cases_eq, IsAmbiguous, IsAtMost, IsSuspect}
use Rattle.np_versions.proofs.AmbiguityLemmas.{at_most_left, at_most_right, least_has, first_of_places}
use Rattle.np_versions.proofs.ambiguity.first_ambiguous.Goals as goal

pub loop-place-preserved : goal.loop-place-preserved
loop-place-preserved c =
    record {
      ambiguous = subst (λ o. IfSome o (IsAmbiguous c.args.characters.now)) (sym c.lesser-first.ensures)
          (least_has (IsAmbiguous c.args.characters.now) c.loop-place.first c.suspect_at.result c.loop-place.invariant.ambiguous c.suspect_at.ensures.ambiguous);
      least = λ k x lt suspect. subst (λ o. IsAtMost o x) (sym c.lesser-first.ensures)
          (elim (cases_eq k c.loop-place.place) [
            | inl here ↦ at_most_right c.loop-place.first c.suspect_at.result x (c.suspect_at.ensures.least x (subst (λ i. IsSuspect c.args.characters.now c.args.pairs.now i x) here suspect))
            | inr other ↦ at_most_left c.loop-place.first c.suspect_at.result x (c.loop-place.invariant.least k x (omega arith) suspect)
          ]);
    }

pub returns : goal.returns
returns c =
    first_of_places c.args.characters.now c.args.pairs.now c.len-place-end.ensures.order c.are_in_order.ensures c.requires c.loop-place.first c.loop-place.invariant.ambiguous
    (λ k x lt suspect. c.loop-place.invariant.least k x (omega arith) suspect)
