-- The rows of UnicodeData.txt (UAX #44, table 9 and section 4.2.3).
use Rattle.std.specs.Prelude.{◌≡◌, ℕ, ◌<◌, List, ◌∷◌, ◌++◌, Some, ◌⊎◌}
use Rattle.std.specs.List.{All, AllPairs, Contains}
use Rattle.np_code_points.specs.Lines.{Numbered, AreDataLines}
use Rattle.np_ucd.specs.Entries.{Entry}
use Rattle.np_ucd.specs.Fields.{Fields, HasFields, IsCodeOf, IsClassOf, IsFirstName, IsLastName}
use Rattle.np_ucd.specs.FirstFaults.{IsLastOf}
use Rattle.np_ucd.specs.Mappings.{IsMapping}

-- a row has one code point, or begins where the record just before, a range's first one, stands
abbrev pub BeginsBehind : List Numbered → Fields → Entry → Type 0
BeginsBehind before f row =
    ((IsLastName f.name → ⊥) × (row.first ≡ row.last))
    ⊎ (IsLastName f.name × ((opening : Fields) × IsLastOf before (Some opening) × IsFirstName opening.name × IsCodeOf opening.code row.first))

-- a record that is no range's first one ends this row, its own or its range's
pub record IsRowOf (records : List Numbered) (row : Entry) : Type 0 where
  pub before : List Numbered
  pub ending : Numbered
  pub behind : List Numbered
  pub stands : records ≡ before ++ ending ∷ behind
  pub fields : Fields
  pub has : HasFields ending.text fields
  pub ends : IsFirstName fields.name → ⊥
  pub begins : BeginsBehind before fields row
  pub last : IsCodeOf fields.code row.last
  pub class : IsClassOf fields.class row.class
  pub mapping : IsMapping fields.mapping (record { kind = row.kind; codes = row.mapping })

-- all of them, and nothing else, from code point to code point
pub record AreAllRows (bytes : List ℕ) (rows : List Entry) : Type 0 where
  pub records : List Numbered
  pub are : AreDataLines bytes records
  pub rise : AllPairs (λ d e. d.last < e.first) rows
  pub each : All (IsRowOf records) rows
  pub all : (row : Entry) → IsRowOf records row → Contains rows row
