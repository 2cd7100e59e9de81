-- The arithmetic by the rows of the syllables and jamo alone.
use Rattle.std.proofs.Common.{◌≡◌, ℕ, ◌+◌, ◌-◌, ◌<◌, ◌≤◌, arith, inr, true, false, ◌&&◌, ◌==◌, List, Option, Some, None, is_some, refl, sym, ◌∙◌}
use Rattle.np_versions.proofs.Words.{Entry, Span, VersionData, entry_at, class_in, class_of, file_mapping, has_hangul, is_assigned, is_empty, is_hangul_row}
use Rattle.np_versions.proofs.Words.{mapping_in, hangul_at, is_right_at, is_right_entry, AreRows}
use Rattle.np_versions.proofs.HangulLemmas.{has_hangul-fails, has_hangul-from, Stands, each_hangul, hangul_at-hangul, stands-is}
use Rattle.np_versions.proofs.RowLemmas.{at-found, entry_at-row, entry_at-within, place_of_entry}

right_entry-is : (o : Option Entry) → is_right_entry o ≡ (is_some o && class_in o == 0 && is_empty (mapping_in o))
right_entry-is None = refl
right_entry-is (Some e) = refl

right-is : (v : VersionData) (c : ℕ) → is_right_at v.entries c ≡ is_hangul_row v c
unfolding is_right_at is_hangul_row is_assigned class_of file_mapping
right-is v c = right_entry-is (entry_at v.entries c)

-- a syllable's code point by its place
syllable_at : (i : ℕ) → 67 ≤ i → hangul_at i ≡ 0xAC00 + (i - 67)
unfolding Stands
syllable_at i far = sym (stands-is i (0xAC00 + (i - 67)) (inr (inr (inr (far, refl)))))

-- where the row of a code point ends
pub row_end : (es : List Entry) (c : ℕ) (e : Entry) → AreRows es → Some e ≡ entry_at es c → (c ≤ e.last) × (e.last < 0x110000)
row_end es c e rows at = grind (arith, entry_at-within es c e (sym at), entry_at-row es c e rows (sym at))

-- all syllables up to the end of one's row are as it is
pub right_run : (es : List Entry) (i k : ℕ) (e : Entry) → AreRows es → Some e ≡ entry_at es (hangul_at i) → 67 ≤ i → i ≤ k → k < i + (e.last - hangul_at i + 1) → is_right_at es (hangul_at i) ≡ true → is_right_at es (hangul_at k) ≡ true
unfolding is_right_at
right_run es i k e rows at far le lt right =
    let place = place_of_entry es (hangul_at i) e (sym at) in
    grind (arith, syllable_at i far, syllable_at k (omega arith), entry_at-within es (hangul_at i) e (sym at), at-found es place.0 (hangul_at k) e rows place.2, place.2, at, right)

module _ (es : List Entry) (spans : List Span) where
  abbrev version : VersionData
  version = record { entries = es; exclusions = spans }

  pub wrong_at : (i : ℕ) → i < 11239 → is_right_at es (hangul_at i) ≡ false → false ≡ has_hangul version
  wrong_at i lt h = sym (has_hangul-fails version (hangul_at i) (hangul_at-hangul i lt) (sym (right-is version (hangul_at i)) ∙ h))

  pub right_below : ((k : ℕ) → k < 11239 → is_right_at es (hangul_at k) ≡ true) → true ≡ has_hangul version
  right_below all =
      sym (has_hangul-from version (λ c h. sym (right-is version c) ∙ each_hangul (λ d. is_right_at es d ≡ true) all c h))
