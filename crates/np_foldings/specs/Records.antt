-- The records of CaseFolding.txt (UAX #44, section 4.2).
use Rattle.std.specs.Prelude.{◌≡◌, ◌≢◌, ℕ, ◌<◌, List, []}
use Rattle.std.specs.List.{All, AllPairs, Contains}
use Rattle.np_code_points.specs.Lines.{Numbered, IsDataLine}
use Rattle.np_ucd.specs.Exclusions.{SaysText}

-- a line that says something, without its comment and the blanks around
pub record IsRecord (bytes : List ℕ) (r : Numbered) : Type 0 where
  pub line : Numbered
  pub is : IsDataLine bytes line
  pub at : line.line ≡ r.line
  pub says : SaysText line.text r.text
  pub some : r.text ≢ []

-- all of them, and nothing else, from line to line
pub record AreRecords (bytes : List ℕ) (records : List Numbered) : Type 0 where
  pub rise : AllPairs (λ r s. r.line < s.line) records
  pub each : All (IsRecord bytes) records
  pub all : (r : Numbered) → IsRecord bytes r → Contains records r
