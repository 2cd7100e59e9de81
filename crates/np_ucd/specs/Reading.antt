-- How a file was read, and why it was refused.
use Rattle.std.specs.Prelude.{ℕ, ◌≤◌, List, length, Option}
use Rattle.std.specs.Io.KnownBytes.{Consumes}
use Rattle.np_code_points.specs.Inputs.{IsReadWhole, IsReadPastLimit}
use Rattle.np_ucd.specs.declared.faults.UcdFault.{UcdFault}
use Rattle.np_ucd.specs.declared.faults.UcdFault.TheVariants.{TooLarge, ReadFailed, Memory}

-- some bytes were taken, one too many at most
abbrev pub IsReadInPart : Option (List ℕ) → Option (List ℕ) → Type 0
IsReadInPart before after = (bytes : List ℕ) × (length bytes ≤ 16777217) × Consumes before after bytes

-- it was too large, or a read failed, or memory ran out; or all bytes were read, and this is their first fault
abbrev pub IsRefused : (List ℕ → UcdFault → Type 0) → Option (List ℕ) → Option (List ℕ) → UcdFault → Type 0
IsRefused IsFault before after TooLarge = IsReadPastLimit before after
IsRefused IsFault before after ReadFailed = IsReadInPart before after
IsRefused IsFault before after Memory = IsReadInPart before after
IsRefused IsFault before after fault = (bytes : List ℕ) × IsReadWhole before after bytes × IsFault bytes fault
