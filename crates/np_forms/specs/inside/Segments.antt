-- Segments whose forms are made code point by code point.
use Rattle.std.specs.Prelude.{◌≡◌, ℕ, ◌<◌, ◌≤◌, ◌⊎◌, ⊤, true, List, [], ◌∷◌, ◌++◌, Option, length, take, chars, flat_map, encode_utf8_all, IsUtf8}
use Rattle.np_code_points.specs.Forms.{is_compat}
use Rattle.np_code_points.specs.declared.forms.Form.{Form}
use Rattle.np_forms.specs.declared.segments.Triple.{Triple}
use Rattle.np_forms.specs.Order.{is_ordered}
use Rattle.np_forms.specs.inside.Classes.{CodeAndClass, with_classes}
use Rattle.np_forms.specs.inside.Composers.{IsComposing}
use Rattle.np_forms.specs.inside.Copies.{IsEndOf}
use Rattle.np_forms.specs.inside.NormalForms.{normal_form}
use Rattle.np_forms.specs.inside.Readings.{IsRead}
use Rattle.np_versions.specs.Versions.{VersionData, class_of}
use Rattle.np_versions.specs.inside.FullDecompositions.{full_of}

-- behind a code point of the class `last` no class is less than the one before, but that of a starter
abbrev pub Rises : (ℕ → ℕ) → ℕ → List ℕ → Type 0
Rises ccc last [] = ⊤
Rises ccc last (c ∷ cs) = ((ccc c ≡ 0) ⊎ (last ≤ ccc c)) × Rises ccc (ccc c) cs

-- the code points `done` were read, of which the last has class `read`; they are in canonical order, and so is what follows
-- them where its classes rise; `list` is what they compose to, whatever follows in canonical order
pub record IsComposedOf (v : VersionData) (done list : List ℕ) (starter : Option ℕ) (kept read : ℕ) : Type 0 where
  pub rises : (later : List ℕ) → Rises (class_of v) read later → Rises (class_of v) 0 (done ++ later)
  pub composing : (rest : List ℕ) → is_ordered (class_of v) (done ++ rest) ≡ true → IsComposing v (done ++ rest) list starter kept rest

-- a front of a text was read, and `full` is its full decomposition
pub record IsFullUpTo (v : VersionData) (form : Form) (text rest full : List ℕ) : Type 0 where
  pub front : List ℕ
  pub reads : IsRead text rest front
  pub is : flat_map (full_of v (is_compat form)) front ≡ full

-- the same, where the list has each code point beside its class
abbrev pub IsDecomposedUpTo : VersionData → Form → List ℕ → List ℕ → List CodeAndClass → Type 0
IsDecomposedUpTo v form text rest list = (full : List ℕ) × IsFullUpTo v form text rest full × (list ≡ with_classes v full)

-- `list` is the form of a front of a text, and `rest` is what follows it
pub record IsFirstMade (v : VersionData) (form : Form) (text rest list : List ℕ) : Type 0 where
  pub end : IsEndOf text rest
  pub made : normal_form v form (chars text) ≡ list ++ normal_form v form (chars rest)

-- the same, where the first bytes are the list in UTF-8
pub record IsFirstPrecomputed (v : VersionData) (form : Form) (text rest bytes : List ℕ) (count : ℕ) : Type 0 where
  pub list : List ℕ
  pub made : IsFirstMade v form text rest list
  pub fits : count ≤ length bytes
  pub utf8 : IsUtf8 (take count bytes)
  pub is : take count bytes ≡ encode_utf8_all list

-- a starter and two non-starters, of which the second has no lower class than the first
pub record IsTriple (v : VersionData) (m : Triple) : Type 0 where
  pub starter : class_of v m.starter ≡ 0
  pub some : 0 < class_of v m.first
  pub rises : class_of v m.first ≤ class_of v m.second

-- the three
abbrev pub listed : Triple → List ℕ
listed m = m.starter ∷ m.first ∷ m.second ∷ []
