-- Full decompositions in one flat list.
use Rattle.std.specs.Prelude.{◌≡◌, ℕ, Bool, true, false, List, map}
use Rattle.np_ucd.specs.Entries.{Entry}
use Rattle.np_versions.specs.inside.FullDecompositions.{table_full}
use Rattle.np_versions.specs.Versions.{VersionData}

-- what a table lends for the code point of each row, by the rows' places
pub record FullLists : Type 0 where
  pub canonical : List (List ℕ)
  pub compatible : List (List ℕ)

-- canonical mappings alone, or both kinds
abbrev pub of_kind : Bool → FullLists → List (List ℕ)
of_kind false lists = lists.canonical
of_kind true lists = lists.compatible

-- what a table lends for the code point of a row
abbrev pub row_full : VersionData → Bool → Entry → List ℕ
row_full v compat e = table_full v compat e.first

-- those of each row
pub record AreFulls (v : VersionData) (lists : FullLists) : Type 0 where
  pub canonical : lists.canonical ≡ map (row_full v false) v.entries
  pub compatible : lists.compatible ≡ map (row_full v true) v.entries
