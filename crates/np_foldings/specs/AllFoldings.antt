-- The foldings of CaseFolding.txt: those of its records of status C and F.
use Rattle.std.specs.Prelude.{◌≢◌, ℕ, ◌<◌, List, [], ◌∷◌}
use Rattle.std.specs.List.{All, AllPairs, Contains}
use Rattle.np_code_points.specs.Lines.{Numbered}
use Rattle.np_foldings.specs.Fields.{Fields, HasHead, IsMapping}
use Rattle.np_foldings.specs.Foldings.{Folding}
use Rattle.np_foldings.specs.Statuses.{Status, IsUsed}

-- a record of a status that is used says this folding, which is none where the code point maps to itself alone
pub record SaysFolding (text : List ℕ) (folding : Folding) : Type 0 where
  pub fields : Fields
  pub status : Status
  pub head : HasHead text fields (record { code = folding.code; status = status })
  pub used : IsUsed status
  pub mapping : IsMapping status fields.mapping folding.mapping
  pub changes : folding.mapping ≢ folding.code ∷ []

abbrev pub IsSaid : List Numbered → Folding → Type 0
IsSaid records folding = (r : Numbered) × Contains records r × SaysFolding r.text folding

-- all of them, and nothing else, from code point to code point
pub record AreAllFoldings (records : List Numbered) (foldings : List Folding) : Type 0 where
  pub rise : AllPairs (λ f g. f.code < g.code) foldings
  pub each : All (IsSaid records) foldings
  pub all : (folding : Folding) → IsSaid records folding → Contains foldings folding
