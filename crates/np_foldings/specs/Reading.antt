-- How a file was read, and why it was refused.
use Rattle.std.specs.Prelude.{ℕ, List, Option, Err}
use Rattle.np_code_points.specs.Inputs.{IsReadWhole, IsReadPastLimit}
use Rattle.np_ucd.specs.Reading.{IsReadInPart}
use Rattle.np_foldings.specs.Faults.{FoldingFault, BadRecord, TooLarge, ReadFailed, Memory}
use Rattle.np_foldings.specs.Verdicts.{IsVerdict}

-- it was too large, or a read failed, or memory ran out; or all bytes were read, and this is their first fault
abbrev pub IsRefused : Option (List ℕ) → Option (List ℕ) → FoldingFault → Type 0
IsRefused before after TooLarge = IsReadPastLimit before after
IsRefused before after ReadFailed = IsReadInPart before after
IsRefused before after Memory = IsReadInPart before after
IsRefused before after (BadRecord line fault) =
    (bytes : List ℕ) × IsReadWhole before after bytes × IsVerdict bytes (Err (BadRecord line fault))
