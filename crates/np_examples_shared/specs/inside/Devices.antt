-- What a clause reads of the devices for tests.
use Rattle.std.specs.Prelude.{◌≡◌, ℕ, ◌+◌, ◌<◌, ◌==◌, List, Option, Some, None, if◌then◌else◌}
use Rattle.np_examples_shared.specs.declared.devices.Endless.{Endless}
use Rattle.np_examples_shared.specs.declared.devices.Ending.{Ending}
use Rattle.np_examples_shared.specs.declared.devices.Failure.{Failure}
use Rattle.np_examples_shared.specs.declared.devices.Trickle.{Trickle}
use Rattle.np_examples_shared.specs.declared.devices.Room.{Room}

-- the bytes that a reader has left
abbrev pub bytes_left : Trickle → List ℕ
bytes_left t = t.bytes.now

-- how many bytes it gives a call at most
abbrev pub piece_of : Trickle → ℕ
piece_of t = t.piece

-- the same of a reader that counts the reads that found its end, and how many did
abbrev pub left_before_end : Ending → List ℕ
left_before_end e = e.bytes.now

abbrev pub ends_found : Ending → ℕ
ends_found e = e.found

-- the bytes that a writer took
abbrev pub bytes_taken : Room → List ℕ
bytes_taken r = r.bytes.items

-- how many bytes it takes in all
abbrev pub room_of : Room → ℕ
room_of r = r.bytes.cap

-- how many bytes it takes a call at most
abbrev pub piece_taken : Room → ℕ
piece_taken r = r.piece

-- a call's number, from 0, and how it fails
abbrev pub Planned : Type 0
Planned = Option (ℕ × Failure)

abbrev pub reader_plan : Trickle → Planned
reader_plan t = t.calls.fails

abbrev pub endless_plan : Endless → Planned
endless_plan e = e.calls.fails

abbrev pub writer_plan : Room → Planned
writer_plan r = r.calls.fails

-- how the call of this number fails, if it does
abbrev pub failure_at : ℕ → Planned → Option Failure
failure_at call None = None
failure_at call (Some plan) = if plan.0 == call then Some plan.1 else None

-- the number of the next call, from 0
abbrev pub reader_call : Trickle → ℕ
reader_call t = t.calls.made

abbrev pub endless_call : Endless → ℕ
endless_call e = e.calls.made

abbrev pub writer_call : Room → ℕ
writer_call r = r.calls.made

-- the count goes on by one, up to 64 bits
abbrev pub IsNextCall : ℕ → ℕ → Type 0
IsNextCall old new = old < 0xFFFFFFFFFFFFFFFF → new ≡ old + 1
