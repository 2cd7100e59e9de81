-- What a version says of code points, as C asks for it.
use Rattle.std.specs.Prelude.{◌≡◌, ◌⊎◌, ◌<◌, ◌≤◌, ℕ, Bool, true, false, List, [], ◌∷◌, chars, encode_utf8_all, IsUtf8, if◌then◌else◌}
use Rattle.std.specs.Char.{IsScalar}
use Rattle.np_forms.specs.Assigned.{IsAssigned}
use Rattle.np_ucd.specs.declared.rows.MapKind.{MapKind}
use Rattle.np_ucd.specs.declared.rows.MapKind.TheVariants.{Plain, Canonical, Compatibility}
use Rattle.np_versions.specs.Composites.{IsCompositeOf}
use Rattle.np_versions.specs.Mappings.{IsFullDecomposition}
use Rattle.np_versions.specs.Versions.{VersionData, class_of, decomposition_kind, is_assigned, is_excluded}
use Rattle.np_c.specs.Answers.{IsPut}
use Rattle.np_c.specs.Statuses.{alone, with_code}
use Rattle.np_c.specs.Texts.{IsNoText, IsUnassigned}
use Rattle.np_c.specs.declared.answers.Answer.{Answer}

-- ---- properties

-- the number of a kind of mapping
abbrev pub number_of : MapKind → ℕ
number_of Plain = 0
number_of Canonical = 1
number_of Compatibility = 2

-- of a code point: its combining class, the kind of its mapping, and 1 where it is excluded from composition
abbrev pub property_answer : VersionData → ℕ → Answer
property_answer v code = record {
  status = 0;
  fault = number_of (decomposition_kind v code);
  code = class_of v code;
  place = if is_excluded v code then 1 else 0;
  length = 0;
}

-- `npss_property`: the number is no code point (The Unicode Standard, D9), or is not assigned, or has these properties
abbrev pub IsPropertyAnswer : VersionData → ℕ → Answer → Type 0
IsPropertyAnswer v code a =
    ((0x10FFFF < code) × (a ≡ alone 23))
    ⊎ ((code ≤ 0x10FFFF) × (((is_assigned v code ≡ false) × (a ≡ with_code 1 code)) ⊎ ((is_assigned v code ≡ true) × (a ≡ property_answer v code))))

-- ---- decompositions

-- the bytes of the full decomposition of a code point (D68, or D65 where `compat`)
pub record IsDecompositionOf (v : VersionData) (compat : Bool) (code : ℕ) (made : List ℕ) : Type 0 where
  pub codes : List ℕ
  pub is : IsFullDecomposition v compat (code ∷ []) codes
  pub bytes_are : made ≡ encode_utf8_all codes

-- they are put into the room, and nothing is told beside their length
pub record IsDecompositionPut (v : VersionData) (compat : Bool) (code : ℕ) (before after : List ℕ) (a : Answer) : Type 0 where
  pub made : List ℕ
  pub is : IsDecompositionOf v compat code made
  pub put : IsPut made before after a
  pub alone : a ≡ record { status = a.status; fault = 0; code = 0; place = 0; length = a.length }

-- `npss_decomposition`: the number is no scalar value (D76), or its full decomposition is put into the room, or memory ran out
abbrev pub IsDecompositionAnswer : VersionData → Bool → ℕ → List ℕ → List ℕ → Answer → Type 0
IsDecompositionAnswer v compat code before after a =
    ((¬ (IsScalar code)) × (a ≡ alone 23) × (after ≡ before))
    ⊎ (IsScalar code × (IsDecompositionPut v compat code before after a ⊎ ((a ≡ alone 4) × (after ≡ before))))

-- ---- composites

-- `npss_composite`: one of the numbers is no scalar value, or there is this primary composite of the two (D114), or none
abbrev pub IsCompositeAnswer : VersionData → ℕ → ℕ → Answer → Type 0
IsCompositeAnswer v first second a =
    ((¬ (IsScalar first × IsScalar second)) × (a ≡ alone 23))
    ⊎ ((IsScalar first × IsScalar second) × (((c : ℕ) × IsCompositeOf v first second c × (a ≡ with_code 0 c))
    ⊎ (((c : ℕ) → ¬ (IsCompositeOf v first second c)) × (a ≡ alone 11))))

-- ---- texts

-- `npss_first_unassigned`: the bytes are no text, or hold this first code point that is not assigned, or none
abbrev pub IsAssignedAnswer : VersionData → List ℕ → Answer → Type 0
IsAssignedAnswer v bytes a =
    IsNoText 0 bytes a ⊎ (IsUnassigned v bytes a ⊎ ((a ≡ alone 0) × IsUtf8 bytes × IsAssigned v (chars bytes)))
