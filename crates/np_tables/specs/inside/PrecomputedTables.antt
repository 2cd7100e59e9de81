-- What is kept of single code points as UTF-8, and what a table answers of it.
use Rattle.std.specs.Prelude.{◌≡◌, ℕ, ◌<◌, ◌≤◌, List, length, take, encode_utf8_all, IsUtf8}
use Rattle.np_code_points.specs.declared.forms.Form.{Form}
use Rattle.np_code_points.specs.declared.forms.Form.TheVariants.{Nfd, Nfc, Nfkd, Nfkc}
use Rattle.np_code_points.specs.Forms.{is_compat}
use Rattle.np_versions.specs.Versions.{VersionData}
use Rattle.np_tables.specs.declared.page_properties.Properties.{Properties}
use Rattle.np_tables.specs.declared.precomputed_tables.PrecomputedTables.{PrecomputedTables}
use Rattle.np_versions.specs.inside.FullDecompositions.{table_full}
use Rattle.np_tables.specs.inside.FullLists.{FullLists, of_kind}
use Rattle.np_tables.specs.inside.PageProperties.{ArePages}
use Rattle.np_tables.specs.inside.PrecomputedForms.{ArePrecomputedForms, Settles}

-- ---- each form

abbrev pub kept_of : Form → PrecomputedTables → List (List ℕ)
kept_of Nfd s = s.nfd
kept_of Nfc s = s.nfc
kept_of Nfkd s = s.nfkd
kept_of Nfkc s = s.nfkc

abbrev pub ArePrecomputedTables : VersionData → FullLists → PrecomputedTables → Type 0
ArePrecomputedTables v lists s = (form : Form) → ArePrecomputedForms v form (of_kind (is_compat form) lists) (kept_of form s)

-- what a table of pages keeps
pub record ArePageTables (v : VersionData) (lists : FullLists)
    (blocks : List ℕ) (all_properties : List Properties) (precomputed : PrecomputedTables) : Type 0 where
  pub pages : ArePages v lists blocks all_properties
  pub precomputed_is : ArePrecomputedTables v lists precomputed

-- ---- what a table answers

-- the first `count` bytes are the form of c by itself, made of its full decomposition, by the functions; `specs/Precomputed` says it in relations
pub record IsPrecomputedOf (v : VersionData) (form : Form) (c : ℕ) (bytes : List ℕ) (count : ℕ) : Type 0 where
  pub list : List ℕ
  pub settles : Settles v form (table_full v (is_compat form) c) list
  pub some : 0 < length (table_full v (is_compat form) c)
  pub fits : count ≤ length bytes
  pub utf8 : IsUtf8 (take count bytes)
  pub is : take count bytes ≡ encode_utf8_all list
