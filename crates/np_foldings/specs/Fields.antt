-- The fields of a record of CaseFolding.txt.
use Rattle.std.specs.Prelude.{ℕ, ◌≤◌, List, [], ◌∷◌, length}
use Rattle.np_ucd.specs.Exclusions.{SaysText}
use Rattle.np_ucd.specs.Fields.{AreFields, IsCodeOf}
use Rattle.np_ucd.specs.Mappings.{AreCodes}
pub use Rattle.np_foldings.specs.declared.heads.Head.{Head}
use Rattle.np_foldings.specs.Statuses.{Status, Common, Full, Simple, Turkic, IsStatusOf}

-- those that are read
pub record Fields : Type 0 where
  pub code : List ℕ
  pub status : List ℕ
  pub mapping : List ℕ

-- a record has four fields, each without the blanks around, and the last one is empty
pub record HasFields (text : List ℕ) (f : Fields) : Type 0 where
  pub first : List ℕ
  pub second : List ℕ
  pub third : List ℕ
  pub fourth : List ℕ
  pub are : AreFields text (first ∷ second ∷ third ∷ fourth ∷ [])
  pub code : SaysText first f.code
  pub status : SaysText second f.status
  pub mapping : SaysText third f.mapping
  pub empty : SaysText fourth []

-- a record's fields say both
pub record HasHead (text : List ℕ) (f : Fields) (head : Head) : Type 0 where
  pub has : HasFields text f
  pub code : IsCodeOf f.code head.code
  pub status : IsStatusOf f.status head.status

-- 2 to 32 code points for the status F, one for each other status, divided by spaces, and no surrogate
abbrev pub IsMapping : Status → List ℕ → List ℕ → Type 0
IsMapping Full field codes = AreCodes 32 field codes × (2 ≤ length codes)
IsMapping Common field codes = AreCodes 1 field codes
IsMapping Simple field codes = AreCodes 1 field codes
IsMapping Turkic field codes = AreCodes 1 field codes
