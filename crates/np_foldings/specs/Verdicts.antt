-- What CaseFolding.txt says as a whole.
use Rattle.std.specs.Prelude.{ℕ, List, Result, Ok, Err}
use Rattle.np_code_points.specs.Lines.{Numbered}
use Rattle.np_foldings.specs.AllFoldings.{AreAllFoldings}
use Rattle.np_foldings.specs.Faults.{FoldingFault, BadRecord, TooLarge, ReadFailed, Memory}
use Rattle.np_foldings.specs.FirstFaults.{IsFirstFault, HasNoFault}
use Rattle.np_foldings.specs.Foldings.{Folding}
use Rattle.np_foldings.specs.Records.{AreRecords}

-- of its records: no fault and all foldings, or the first fault
abbrev pub IsSaidBy : List Numbered → Result (List Folding) FoldingFault → Type 0
IsSaidBy records (Ok foldings) = HasNoFault records × AreAllFoldings records foldings
IsSaidBy records (Err (BadRecord line fault)) = IsFirstFault records line fault
IsSaidBy records (Err TooLarge) = ⊥
IsSaidBy records (Err ReadFailed) = ⊥
IsSaidBy records (Err Memory) = ⊥

pub record IsVerdict (bytes : List ℕ) (verdict : Result (List Folding) FoldingFault) : Type 0 where
  pub records : List Numbered
  pub are : AreRecords bytes records
  pub said : IsSaidBy records verdict
