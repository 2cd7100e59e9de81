use Rattle.std.proofs.Common.{◌≡◌, ◌∷◌, [], false, inl, inr, refl}
use Rattle.np_forms.proofs.Words.{cases_Bool, is_syllable, syllable_pair}
use Rattle.np_forms.proofs.SyllableLemmas.{syllable_parts-two, syllable_parts-three}
use Rattle.np_forms.proofs.decomposing.append_syllable.Goals as goal

pub returns-in-Some-hangul_parts : goal.returns-in-Some-hangul_parts
returns-in-Some-hangul_parts g c =
    let pair : syllable_pair c.args.c ≡ c.in-Some.first ∷ c.in-Some.second ∷ [] = let p = c.in-Some.ensures.parts in let f = c.in-Some.first-is in let g = c.in-Some.second-is in cc in
    let again : syllable_pair c.in-Some.first ≡ c.in-Some-hangul_parts.leading ∷ c.in-Some-hangul_parts.vowel ∷ [] =
    let p = c.in-Some-hangul_parts.ensures.parts in let f = c.in-Some-hangul_parts.leading-is in let g = c.in-Some-hangul_parts.vowel-is in cc in
    rw (syllable_parts-three _ _ _ _ _ c.requires pair (c.in-Some-hangul_parts.ensures.some.0 refl) again) c.push_classed.ensures

pub returns-in-None : goal.returns-in-None
returns-in-None g c =
    let pair : syllable_pair c.args.c ≡ c.in-Some.first ∷ c.in-Some.second ∷ [] = let p = c.in-Some.ensures.parts in let f = c.in-Some.first-is in let g = c.in-Some.second-is in cc in
    let plain : is_syllable c.in-Some.first ≡ false = elim (cases_Bool (is_syllable c.in-Some.first)) [ inl whole ↦ (let clash = c.in-None.ensures.some.1 whole in cc) | inr other ↦ other ] in
    rw (syllable_parts-two _ _ _ c.requires pair plain) c.push_classed-in-None.ensures
