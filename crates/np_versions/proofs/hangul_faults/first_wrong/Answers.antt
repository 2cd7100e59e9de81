use Rattle.std.proofs.Common.{◌∙◌, sym, subst, ap, arith}
use Rattle.np_versions.proofs.Words.{IsHangulWrong, IsLeastOf, is_hangul_row, both_ways}
use Rattle.np_versions.proofs.HangulLemmas.{first_wrong-some, first_wrong-none, none_assigned, has_hangul-at}
use Rattle.np_versions.proofs.hangul_faults.first_wrong.Goals.{then-has_hangul-via-then-has_hangul, then-has_hangul-via-else-has_hangul+then-not-has_some}
use Rattle.np_versions.proofs.hangul_faults.first_wrong.Goals as goal

pub returns-then-has_hangul : goal.returns-then-has_hangul
returns-then-has_hangul c =
    elim c.then-has_hangul.branch [
      | then-has_hangul-via-then-has_hangul w ↦ λ d wrong. both_ways _ wrong.wrong (has_hangul-at _ (sym c.has_hangul.ensures ∙ w.if-has_hangul.true) d wrong.hangul)
      | then-has_hangul-via-else-has_hangul+then-not-has_some w ↦ none_assigned _ (w.has_some.ensures.none w.if-not-has_some.true)
    ]

pub returns-then-not-is_hangul_row : goal.returns-then-not-is_hangul_row
returns-then-not-is_hangul_row c =
    subst (IsLeastOf (IsHangulWrong _)) (sym c.hangul_at-code.ensures)
    (first_wrong-some _ _ (c.has_some.ensures.some c.if-not-has_some.false) (omega arith) c.loop-place.invariant
    (sym (ap (is_hangul_row _) c.hangul_at-code.ensures) ∙ sym c.is_hangul_row.ensures ∙ c.if-not-is_hangul_row.true))

pub returns : goal.returns
returns c = first_wrong-none c.args.characters.now (λ k lt. c.loop-place.invariant k (omega arith))
