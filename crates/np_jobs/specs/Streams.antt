-- What a job does with its devices.
use Rattle.std.specs.Prelude.{◌≡◌, ℕ, ◌≤◌, ◌↔◌, Bool, true, false, List, length, take, Option}
use Rattle.std.specs.Io.KnownBytes.{Appends, Consumes}
use Rattle.np_code_points.specs.Inputs.{IsReadWhole, IsReadPastLimit}
use Rattle.np_code_points.specs.Watched.{device_of, has_failed}
use Rattle.np_code_points.specs.declared.channels.input.InputFault.{InputFault}
use Rattle.np_code_points.specs.declared.channels.input.InputFault.TheVariants.{TooLarge, ReadFailed}
use Rattle.np_code_points.specs.declared.channels.watched.Watched.{Watched}

-- a device: the bytes that it tells before a job and after it, those left of a reader or held by a writer, and whether it failed
pub record Stream : Type 0 where
  pub before : Option (List ℕ)
  pub after : Option (List ℕ)
  pub failed : Bool

-- by what tells a device's bytes
abbrev pub stream_of : {D : Type 0} → (D → Option (List ℕ)) → Watched D → Watched D → Stream
stream_of tells old new = record { before = tells (device_of old); after = tells (device_of new); failed = has_failed new }

-- nothing was read or written, and nothing failed
pub record IsUntouched (s : Stream) : Type 0 where
  pub same : s.after ≡ s.before
  pub clear : s.failed ≡ false

-- all was read, these bytes
pub record WasRead (s : Stream) (bytes : List ℕ) : Type 0 where
  pub read : IsReadWhole s.before s.after bytes
  pub clear : s.failed ≡ false

-- an input was not read whole: at most 16,777,217 bytes were taken, exactly so many where it is too large, and the device failed
-- exactly where that is the reason
pub record WasNotRead (s : Stream) (fault : InputFault) : Type 0 where
  pub taken : (bytes : List ℕ) × (length bytes ≤ 16777217) × Consumes s.before s.after bytes
  pub past : fault ≡ TooLarge → IsReadPastLimit s.before s.after
  pub failed : (fault ≡ ReadFailed) ↔ (s.failed ≡ true)

-- exactly these bytes were written, and neither a write nor the flush failed
pub record WasWritten (s : Stream) (bytes : List ℕ) : Type 0 where
  pub written : Appends s.before s.after bytes
  pub clear : s.failed ≡ false

-- some first ones of these bytes were written, and then a write or the flush failed
pub record WasCutShort (s : Stream) (bytes : List ℕ) : Type 0 where
  pub count : ℕ
  pub fits : count ≤ length bytes
  pub written : Appends s.before s.after (take count bytes)
  pub failed : s.failed ≡ true
