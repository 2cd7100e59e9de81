-- How a table comes to its foldings.
use Rattle.std.specs.Prelude.{◌≡◌, ◌⊎◌, ℕ, List}
use Rattle.np_foldings.specs.Lowercases.{AreLowercases}
use Rattle.np_foldings.specs.declared.lowercases.Lowercase.{Lowercase}
use Rattle.np_caseless.specs.ConditionFaults.{IsFaultless}
use Rattle.np_caseless.specs.Folded.{FoldedVersion}
use Rattle.np_c.specs.FoldingFiles.{IsConditionAnswer}
use Rattle.np_c.specs.Statuses.{alone}
use Rattle.np_c.specs.declared.answers.Answer.{Answer}

-- it is the version with its foldings, which have no fault beside the lowercases of the data file
pub record IsFoldedOver (data_file : List ℕ) (v made : FoldedVersion) : Type 0 where
  pub same : made ≡ v
  pub lowercases : List Lowercase
  pub lower : AreLowercases data_file lowercases
  pub faultless : IsFaultless v lowercases

-- the version has a fault with its foldings, or memory ran out
abbrev pub LacksFolded : List ℕ → FoldedVersion → Answer → Type 0
LacksFolded data_file v a = IsConditionAnswer data_file v a ⊎ (a ≡ alone 4)
