-- A version with Hangul syllables and jamo extends one without them.
use Rattle.std.proofs.Common.{◌≡◌, ℕ, true, false, ◌&&◌, refl, sym, ap, subst, ◌∙◌, inl, inr, []}
use Rattle.std.specs.List.{list_all}
use Rattle.std.proofs.lemmas.Bool.{and_left, and_parts, cases_Bool}
use Rattle.np_chain.specs.Extension.{Keeps, Extends}
use Rattle.np_chain.specs.Laws.{ExtensionIsMet}
use Rattle.np_code_points.specs.Hangul.{is_syllable}
use Rattle.np_versions.proofs.ExampleLemmas.{assigned_code, hangul_on_with, hangul_rows, IsSound-with_hangul, IsSound-with_rows, letter_kind, letter_mapping, no_hangul, pair_alone-with_hangul, pair_alone-with_rows, pair_kind, pair_mapping, pair_primary, ring_kind, ring_mapping, syllable_lacks, three_codes}
use Rattle.np_versions.proofs.HangulLemmas.{decomposition_mapping-on, has_hangul-at, hangul_parts, head_hangul, shape_of}
use Rattle.np_versions.specs.Composites.{IsPrimary}
use Rattle.np_versions.specs.Examples.{with_rows, with_hangul}
use Rattle.np_versions.specs.Versions.{decomposition_mapping, has_hangul, is_assigned}

-- ---- the three code points stand in both versions as they are

kept_letter : Keeps with_rows with_hangul 0x41
kept_letter =
    let now = (three_codes hangul_rows).letter in
    let before = (three_codes []).letter in
    record { assigned = now.0; class = now.1 ∙ sym before.1; kind = letter_kind hangul_rows ∙ sym (letter_kind []); mapping = letter_mapping hangul_rows ∙ sym (letter_mapping []) }

kept_pair : Keeps with_rows with_hangul 0xC5
kept_pair =
    let now = (three_codes hangul_rows).pair in
    let before = (three_codes []).pair in
    record { assigned = now.0; class = now.1 ∙ sym before.1; kind = pair_kind hangul_rows ∙ sym (pair_kind []); mapping = pair_mapping hangul_rows ∙ sym (pair_mapping []) }

kept_ring : Keeps with_rows with_hangul 0x30A
kept_ring =
    let now = (three_codes hangul_rows).ring in
    let before = (three_codes []).ring in
    record { assigned = now.0; class = now.1 ∙ sym before.1; kind = ring_kind hangul_rows ∙ sym (ring_kind []); mapping = ring_mapping hangul_rows ∙ sym (ring_mapping []) }

keeps : (c : ℕ) → is_assigned with_rows c ≡ true → Keeps with_rows with_hangul c
keeps = assigned_code (Keeps with_rows with_hangul) kept_letter kept_pair kept_ring

-- ---- primary composites

off : has_hangul with_rows ≡ false
off =
    elim (cases_Bool (has_hangul with_rows)) [
      | inl on ↦ absurd (no_hangul 0xAC00 refl (hangul_parts with_rows 0xAC00 (has_hangul-at with_rows on 0xAC00 refl)).assigned)
      | inr is_off ↦ is_off
    ]

old_composites : (c : ℕ) → IsPrimary with_rows c → IsPrimary with_hangul c
old_composites c is =
    let same = pair_alone-with_rows is.first is.second c (record { primary = is; mapping = is.pair }) (and_left _ (is_syllable c) off) in
    subst (IsPrimary with_hangul) (sym same) (pair_primary hangul_rows)

new_composites : (c : ℕ) → IsPrimary with_hangul c → list_all (is_assigned with_rows) (decomposition_mapping with_hangul c) ≡ true → IsPrimary with_rows c
new_composites c is parts =
    elim (cases_Bool (has_hangul with_hangul && is_syllable c)) [
      | inl on ↦
          let shape = shape_of c (and_parts _ _ on).1 in
          let all = sym (ap (list_all (is_assigned with_rows)) (decomposition_mapping-on with_hangul c on ∙ shape.pair)) ∙ parts in
          absurd (no_hangul shape.first (head_hangul shape.first shape.head) (and_parts (is_assigned with_rows shape.first) _ all).0)
      | inr plain ↦
          let same = pair_alone-with_hangul is.first is.second c (record { primary = is; mapping = is.pair }) plain in
          subst (IsPrimary with_rows) (sym same) (pair_primary [])
    ]

extends : Extends with_rows with_hangul
extends = record { keeps = keeps; old_composites = old_composites; new_composites = new_composites }

pub extension_is_met : ExtensionIsMet
extension_is_met = (IsSound-with_rows, IsSound-with_hangul, extends, syllable_lacks, hangul_on_with)
