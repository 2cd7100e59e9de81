-- How a job ends by what it made, or why it made nothing.
use Rattle.std.specs.Prelude.{ℕ, Result, Ok, Err, string_bytes}
use Rattle.np_jobs.specs.Ends.{TellsAs, WritesAnswer}
use Rattle.np_jobs.specs.Streams.{Stream, IsUntouched}
use Rattle.np_jobs.specs.Tellings.{Telling}
use Rattle.np_jobs.specs.declared.ending.JobOutput.{JobOutput}

-- by how its refusals are told
abbrev pub EndsWith : {F : Type 0} → (F → Telling) → Result JobOutput F → Stream → Stream → ℕ → Type 0
EndsWith telling (Ok made) output error status = WritesAnswer made.is_yes (string_bytes made.text) output error status
EndsWith telling (Err fault) output error status = IsUntouched output × TellsAs (telling fault) error status
