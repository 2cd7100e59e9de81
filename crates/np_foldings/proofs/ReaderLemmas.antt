-- What a file's reader answers, from what is answered on its bytes.
use Rattle.std.proofs.Common.{◌≡◌, ℕ, ◌↔◌, Bool, true, List, Option, Result, Ok, Err, IfOk, IfErr, sym, ap, subst, ◌∙◌, arith, ⊎_elim}
use Rattle.np_code_points.specs.Inputs.{IsReadWhole}
use Rattle.np_foldings.specs.Faults.{FoldingFault, BadRecord, TooLarge, ReadFailed, Memory}
use Rattle.np_foldings.specs.Foldings.{Folding}
use Rattle.np_foldings.specs.Reading.{IsRefused}
use Rattle.np_foldings.specs.Verdicts.{IsVerdict}
use Rattle.np_foldings.specs.inside.FileReading.{verdict_in}
use Rattle.np_foldings.specs.inside.RecordValues.{IsMemoryOrErr}
use Rattle.np_foldings.proofs.LawGrammar.{is_verdict}

module _ {before after : Option (List ℕ)} {bytes : List ℕ} (whole : IsReadWhole before after bytes) where
  pub verdict_read : (r : Result (List Folding) FoldingFault) → IfOk r (λ foldings. verdict_in bytes ≡ Ok foldings) → IfOk r (λ foldings. (bytes : List ℕ) × IsReadWhole before after bytes × IsVerdict bytes (Ok foldings))
  verdict_read (Ok foldings) h = (bytes, whole, subst (IsVerdict bytes) h (is_verdict bytes))
  verdict_read (Err e) h = tt

  told : (e : FoldingFault) → verdict_in bytes ≡ Err e → IsRefused before after e
  told (BadRecord line fault) h = (bytes, whole, subst (IsVerdict bytes) h (is_verdict bytes))
  told TooLarge h = absurd (subst (IsVerdict bytes) h (is_verdict bytes)).said
  told ReadFailed h = absurd (subst (IsVerdict bytes) h (is_verdict bytes)).said
  told Memory h = absurd (subst (IsVerdict bytes) h (is_verdict bytes)).said

  pub refused_read : {T : Type 0} (r : Result T FoldingFault) → IfErr r (λ e. IsMemoryOrErr (verdict_in bytes) e) → IfErr r (IsRefused before after)
  refused_read (Ok x) h = tt
  refused_read (Err e) h =
      ⊎_elim
      (λ (m : e ≡ Memory). subst (λ (f : FoldingFault). IsRefused before after f) (sym m) (bytes, omega (arith, whole.size), whole.taken))
      (λ same. told e same)
      h

not_failed : (bytes : List ℕ) (e : FoldingFault) → IsMemoryOrErr (verdict_in bytes) e → e ≡ ReadFailed → ⊥
not_failed bytes e h failed =
    ⊎_elim (λ m. let clash = sym m ∙ failed in absurd (cc))
    (λ same. absurd (subst (IsVerdict bytes) (same ∙ ap Err failed) (is_verdict bytes)).said) h

-- a device that gave all bytes did not fail, and none of their faults says so
pub failed_read : {T : Type 0} (bytes : List ℕ) (r : Result T FoldingFault) (failed : Bool) → IfErr r (λ e. IsMemoryOrErr (verdict_in bytes) e) → (failed ≡ true → ⊥) → (r ≡ Err ReadFailed) ↔ (failed ≡ true)
failed_read bytes (Ok x) failed h sound = (λ e. absurd (cc), λ bad. absurd (sound bad))
failed_read bytes (Err e) failed h sound = (
  λ same. let at : e ≡ ReadFailed = cc in absurd (not_failed bytes e h at),
  λ bad. absurd (sound bad),
)
