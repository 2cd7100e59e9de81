-- The laws of the grammar: what its relations determine.
use Rattle.std.specs.Prelude.{ℕ, List}
use Rattle.np_code_points.specs.One.{HasOne}
use Rattle.np_foldings.specs.Records.{AreRecords}
use Rattle.np_foldings.specs.Verdicts.{IsVerdict}

-- a file has one list of records
abbrev pub HasOneListOfRecords : Type 0
HasOneListOfRecords = (bytes : List ℕ) → HasOne (AreRecords bytes)

-- it has one list of foldings, or one first fault
abbrev pub HasOneVerdict : Type 0
HasOneVerdict = (bytes : List ℕ) → HasOne (IsVerdict bytes)
