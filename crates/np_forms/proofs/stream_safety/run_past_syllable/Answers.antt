use Rattle.std.proofs.Common.{◌≡◌, ◌∷◌, [], false, inl, inr, refl}
use Rattle.np_forms.proofs.Words.{cases_Bool, is_syllable, syllable_pair}
use Rattle.np_forms.proofs.SyllableLemmas.{syllable_parts-two, syllable_parts-three}
use Rattle.np_forms.proofs.stream_safety.run_past_syllable.Goals as goal

pub returns-in-Some-hangul_parts-clause-over : goal.returns-in-Some-hangul_parts-clause-over
returns-in-Some-hangul_parts-clause-over g c = λ rest.
    let pair : syllable_pair c.args.c ≡ c.in-Some.first ∷ c.in-Some.second ∷ [] = let p = c.in-Some.ensures.parts in let f = c.in-Some.first-is in let g = c.in-Some.second-is in cc in
    let again : syllable_pair c.in-Some.first ≡ c.in-Some-hangul_parts.leading ∷ c.in-Some-hangul_parts.vowel ∷ [] =
    let p = c.in-Some-hangul_parts.ensures.parts in let f = c.in-Some-hangul_parts.leading-is in let g = c.in-Some-hangul_parts.vowel-is in cc in
    rw (syllable_parts-three _ _ _ _ _ c.requires.syllable pair (c.in-Some-hangul_parts.ensures.some.0 refl) again) (c.run_past_all.ensures.over rest)

pub returns-in-None-clause-over : goal.returns-in-None-clause-over
returns-in-None-clause-over g c = λ rest.
    let pair : syllable_pair c.args.c ≡ c.in-Some.first ∷ c.in-Some.second ∷ [] = let p = c.in-Some.ensures.parts in let f = c.in-Some.first-is in let g = c.in-Some.second-is in cc in
    let plain : is_syllable c.in-Some.first ≡ false = elim (cases_Bool (is_syllable c.in-Some.first)) [ inl whole ↦ (let clash = c.in-None.ensures.some.1 whole in cc) | inr other ↦ other ] in
    rw (syllable_parts-two _ _ _ c.requires.syllable pair plain) (c.run_past_all-in-None.ensures.over rest)
