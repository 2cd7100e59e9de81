-- Hangul syllables in two versions.
use Rattle.std.proofs.Common.{◌≡◌, ℕ, Bool, true, false, ◌&&◌, refl, sym, ap, ap₂, ◌∙◌, inl, inr}
use Rattle.std.proofs.lemmas.Bool.{cases_Bool, and_from, and_left, and_right, both_ways, false_from_ne_true}
use Rattle.std.specs.List.{list_all}
use Rattle.std.specs.Prelude.{bytes_eq}
use Rattle.std.proofs.lemmas.Slice.Eq.{bytes_eq-Decides}
use Rattle.np_chain.specs.inside.BreakTests.{is_same_kind, maps_alike, has_old_parts}
use Rattle.np_code_points.specs.Hangul.{is_syllable, syllable_pair}
use Rattle.np_versions.proofs.HangulLemmas.{decomposition_kind-off, decomposition_kind-on, decomposition_mapping-off, decomposition_mapping-on, head_hangul, pair_assigned, shape_of, syllable_hangul}
use Rattle.np_versions.specs.Conditions.{IsSound}
use Rattle.np_versions.specs.Versions.{VersionData, is_assigned, file_kind, file_mapping, has_hangul}

-- what a syllable maps to is assigned exactly where the arithmetic is on
pair_parts : (v : VersionData) (s : ℕ) → IsSound v → is_syllable s ≡ true → has_hangul v ≡ list_all (is_assigned v) (syllable_pair s)
pair_parts v s sound h =
    elim (cases_Bool (has_hangul v)) [
      | inl on ↦ on ∙ sym (pair_assigned v s on h)
      | inr off ↦
          let shape = shape_of s h in
          off
          ∙ sym (ap (list_all (is_assigned v)) shape.pair
          ∙ and_left _ _ (false_from_ne_true (is_assigned v shape.first) (λ first. both_ways _ off (sound.hangul shape.first (head_hangul shape.first shape.head) first))))
    ]

-- ---- the parts of a code point of the new version

module _ (old new : VersionData) (c : ℕ) where
  pub old_parts-syllable : IsSound old → is_syllable c ≡ true → has_hangul new ≡ true → has_hangul old ≡ has_old_parts old new c
  unfolding has_old_parts
  old_parts-syllable sound is on =
      pair_parts old c sound is ∙ ap (list_all (is_assigned old)) (sym (decomposition_mapping-on new c (and_from _ _ on is)))

  pub old_parts-listed : (has_hangul new && is_syllable c) ≡ false → list_all (is_assigned old) (file_mapping new c) ≡ has_old_parts old new c
  unfolding has_old_parts
  old_parts-listed off = ap (list_all (is_assigned old)) (sym (decomposition_mapping-off new c off))

  -- ---- the mappings of a code point in both versions

  pub alike-listed : is_syllable c ≡ false → (is_same_kind (file_kind new c) (file_kind old c) && bytes_eq (file_mapping new c) (file_mapping old c)) ≡ maps_alike old new c
  unfolding maps_alike
  alike-listed not =
      let a = and_right (has_hangul old) _ not in
      let b = and_right (has_hangul new) _ not in
      let k = decomposition_kind-off new c b in
      let l = decomposition_kind-off old c a in
      let m = decomposition_mapping-off new c b in
      let n = decomposition_mapping-off old c a in
      cc

  pub alike-when : is_syllable c ≡ false → is_same_kind (file_kind new c) (file_kind old c) ≡ true → bytes_eq (file_mapping new c) (file_mapping old c) ≡ maps_alike old new c
  alike-when not same =
      sym (ap (λ (b : Bool). b && bytes_eq (file_mapping new c) (file_mapping old c)) same) ∙ alike-listed not

  pub alike-syllable : IsSound old → IsSound new → is_assigned old c ≡ true → is_assigned new c ≡ true → is_syllable c ≡ true → maps_alike old new c ≡ true
  unfolding maps_alike
  alike-syllable sound_old sound_new in_old in_new is =
      let hangul = syllable_hangul c is in
      let a = and_from _ _ (sound_old.hangul c hangul in_old) is in
      let b = and_from _ _ (sound_new.hangul c hangul in_new) is in
      let k = decomposition_kind-on new c b in
      let l = decomposition_kind-on old c a in
      let m = decomposition_mapping-on new c b in
      let n = decomposition_mapping-on old c a in
      let same = (bytes_eq-Decides (syllable_pair c) (syllable_pair c)).1 refl in
      ap₂ (λ (x y : Bool). x && y) (ap₂ is_same_kind k l) (ap₂ bytes_eq m n ∙ same)
