-- How a job ends that makes its whole output before the first write.
use Rattle.std.specs.Prelude.{◌≡◌, ℕ, ◌⊎◌, Bool, false, List, if◌then◌else◌}
use Rattle.np_jobs.specs.Streams.{Stream, IsUntouched, WasWritten, WasCutShort}
use Rattle.np_jobs.specs.Tellings.{Telling, memory_line, telling_of}
use Rattle.np_jobs.specs.declared.faults.JobFault.{JobFault}
use Rattle.np_jobs.specs.declared.faults.JobFault.TheVariants.{WriteFailed}

-- 0 where the answer is yes, 1 where it is no
abbrev pub answer_status : Bool → ℕ
answer_status is_yes = if is_yes then 0 else 1

-- a line is told: whole, or, where the device failed, in part
abbrev pub IsTold : Stream → List ℕ → Type 0
IsTold error line = WasWritten error line ⊎ WasCutShort error line

-- a refusal is told in its line, with its status; where memory lacks for the line, as want of memory
abbrev pub TellsAs : Telling → Stream → ℕ → Type 0
TellsAs telling error status =
    (IsTold error telling.line × (status ≡ telling.status))
    ⊎ (IsTold error memory_line × (status ≡ 6) × (telling.is_fixed ≡ false))

abbrev pub TellsRefusal : JobFault → Stream → ℕ → Type 0
TellsRefusal fault error status = TellsAs (telling_of fault) error status

-- the output was written, and nothing is told; or the output failed, which is told
abbrev pub WritesAnswer : Bool → List ℕ → Stream → Stream → ℕ → Type 0
WritesAnswer is_yes bytes output error status =
    (WasWritten output bytes × IsUntouched error × (status ≡ answer_status is_yes))
    ⊎ (WasCutShort output bytes × TellsRefusal WriteFailed error status)

-- a job that makes this answer and output, and writes it; or is refused for this, and writes nothing: by how its refusals are told
abbrev pub JobEndsBy : {F : Type 0} → (F → Telling) → (Bool → List ℕ → Type 0) → (F → Type 0) → Stream → Stream → ℕ → Type 0
JobEndsBy {F} telling Makes Refuses output error status =
    ((is_yes : Bool) × (bytes : List ℕ) × Makes is_yes bytes × WritesAnswer is_yes bytes output error status)
    ⊎ ((fault : F) × Refuses fault × IsUntouched output × TellsAs (telling fault) error status)

abbrev pub JobEnds : (Bool → List ℕ → Type 0) → (JobFault → Type 0) → Stream → Stream → ℕ → Type 0
JobEnds Makes Refuses output error status = JobEndsBy telling_of Makes Refuses output error status
