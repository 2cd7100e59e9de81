-- What a clause reads of a `Watched` device.
use Rattle.std.specs.Prelude.{ℕ, Bool, true, false, List, [], ◌∷◌, Ok, Err, Result, eqb}
use Rattle.np_code_points.specs.declared.channels.watched.Watched.{Watched}

-- the device inside
abbrev pub device_of : {D : Type 0} → Watched D → D
device_of w = w.device

-- whether a call failed since the mark was last cleared
abbrev pub has_failed : {D : Type 0} → Watched D → Bool
has_failed w = w.failed

-- whether a read or a flush that gave r failed
abbrev pub call_fails : {A E : Type 0} → Result A E → Bool
call_fails (Ok _) = false
call_fails (Err _) = true

-- whether a write of buf that gave r failed: by an error, or by taking nothing of a piece that is not empty
abbrev pub write_fails : {E : Type 0} → Result ℕ E → List ℕ → Bool
write_fails (Err _) buf = true
write_fails (Ok n) [] = false
write_fails (Ok n) (b ∷ bs) = eqb n 0
