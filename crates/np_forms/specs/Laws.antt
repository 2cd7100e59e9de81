-- The laws of the forms, over the definitions alone.
use Rattle.std.specs.Prelude.{◌≡◌, ℕ, ◌*◌, ◌≤◌, true, List, [], ◌∷◌, length, take, chars, IsUtf8, ◌↔◌}
use Rattle.np_versions.specs.Composites.{IsCompositeOf}
use Rattle.np_versions.specs.Conditions.{IsSound}
use Rattle.np_code_points.specs.declared.forms.Form.{Form}
use Rattle.np_code_points.specs.Forms.{is_compat}
use Rattle.np_code_points.specs.One.{HasOne}
use Rattle.np_forms.specs.Forms.{IsDecomposed, IsNormalForm, IsEquivalent}
use Rattle.np_forms.specs.Order.{IsOrderedForm}
use Rattle.np_versions.specs.Examples.{without_rows, with_rows, with_hangul}
use Rattle.np_versions.specs.Precomputed.{IsPrecomputed}
use Rattle.np_versions.specs.QuickSpans.{IsQuickSpan}
use Rattle.np_versions.specs.Versions.{VersionData, class_of, has_hangul}

-- a list has exactly one ordered form, whatever gives the combining classes
abbrev pub OneOrderedForm : Type 0
OneOrderedForm = (ccc : ℕ → ℕ) (xs : List ℕ) → HasOne (IsOrderedForm ccc xs)

-- a text has exactly one normal form
abbrev pub OneForm : Type 0
OneForm = (v : VersionData) (form : Form) (xs : List ℕ) → IsSound v → HasOne (IsNormalForm v form xs)

-- a normal form is its own normal form, and keeps the ordered full decomposition
abbrev pub Idempotence : Type 0
Idempotence =
    (v : VersionData) (form : Form) (xs ys ds : List ℕ) → IsSound v → IsNormalForm v form xs ys → IsDecomposed v (is_compat form) xs ds →
    IsNormalForm v form ys ys × IsDecomposed v (is_compat form) ys ds

-- two texts have equal normal forms exactly where they are equivalent
abbrev pub SameForms : Type 0
SameForms =
    (v : VersionData) (form : Form) (xs ys ks ls : List ℕ) → IsSound v → IsNormalForm v form xs ks → IsNormalForm v form ys ls →
    (ks ≡ ls) ↔ IsEquivalent v (is_compat form) xs ys

-- a normal form has at most 64 code points for each of its text, since no full decomposition is longer
abbrev pub FewCodePoints : Type 0
FewCodePoints = (v : VersionData) (form : Form) (xs ys : List ℕ) → IsSound v → IsNormalForm v form xs ys → length ys ≤ 64 * length xs

-- and at most 256 bytes for each byte of its text, since a code point has one to four
abbrev pub FewBytes : Type 0
FewBytes =
    (v : VersionData) (form : Form) (string key : List ℕ) → IsSound v → IsUtf8 string → IsUtf8 key → IsNormalForm v form (chars string) (chars key) →
    length key ≤ 256 * length string

-- a front that passes the quick check, as a table's scan over a text tells it, is its own normal form
abbrev pub QuickSpanForm : Type 0
QuickSpanForm =
    (v : VersionData) (form : Form) (text : List ℕ) (n : ℕ) → IsSound v → IsUtf8 text → IsQuickSpan v form text n
    → IsNormalForm v form (chars (take n text)) (chars (take n text))

-- the precomputed form that a table has of a code point is its normal form
abbrev pub PrecomputedForm : Type 0
PrecomputedForm =
    (v : VersionData) (form : Form) (c : ℕ) (bytes : List ℕ) (count : ℕ) → IsSound v → IsPrecomputed v form c bytes count
    → IsNormalForm v form (c ∷ []) (chars (take count bytes))

-- the premise of these laws on a version is met: by the version of empty files; by one of three rows, a starter, a
-- non-starter of class 230 and their primary composite; and by one with the Hangul arithmetic on
abbrev pub PremisesAreMet : Type 0
PremisesAreMet =
    IsSound without_rows × IsSound with_rows × (class_of with_rows 0x30A ≡ 230) × IsCompositeOf with_rows 0x41 0x30A 0xC5 ×
    IsSound with_hangul × (has_hangul with_hangul ≡ true)
