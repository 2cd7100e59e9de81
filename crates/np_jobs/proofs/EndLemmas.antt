-- From what a job made, or why it was refused, to its end.
use Rattle.std.proofs.Common.{◌≡◌, ℕ, inl, inr, Bool, false, List, Option, Result, Ok, Err, IfOk, IfErr, string_bytes, ap, subst}
use Rattle.np_code_points.specs.Watched.{device_of, has_failed}
use Rattle.np_code_points.specs.declared.channels.watched.Watched.{Watched}
use Rattle.np_jobs.specs.Ends.{JobEndsBy}
use Rattle.np_jobs.specs.Streams.{IsUntouched, Stream, stream_of}
use Rattle.np_jobs.specs.Endings.{EndsWith}
use Rattle.np_jobs.specs.declared.ending.JobOutput.{JobOutput}
use Rattle.np_jobs.specs.Tellings.{Telling}

-- a stream goes by the devices, and not by the marks before
pub same_stream : {D : Type 0} (tells : D → Option (List ℕ)) (a b new : Watched D) → device_of a ≡ device_of b → stream_of tells a new ≡ stream_of tells b new
same_stream tells a b new e = ap (λ d. record { before = tells d; after = tells (device_of new); failed = has_failed new }) e

-- the same of a property of two streams
pub on_both : {D E : Type 0} (tells : D → Option (List ℕ)) (holds : E → Option (List ℕ)) (a b new : Watched D) (c d other : Watched E)
    → device_of a ≡ device_of b → device_of c ≡ device_of d
    → (P : Stream → Stream → Type 0) → P (stream_of tells a new) (stream_of holds c other) → P (stream_of tells b new) (stream_of holds d other)
on_both tells holds a b new c d other one two P is =
    subst (λ s. P s (stream_of holds d other)) (same_stream tells a b new one) (subst (λ s. P (stream_of tells a new) s) (same_stream holds c d other two) is)

pub on_same : {D : Type 0} (tells : D → Option (List ℕ)) (a b new c d other : Watched D) → device_of a ≡ device_of b → device_of c ≡ device_of d
    → (P : Stream → Stream → Type 0)
    → P (stream_of tells a new) (stream_of tells c other) → P (stream_of tells b new) (stream_of tells d other)
on_same tells = on_both tells tells

-- a device whose mark alone was taken away
pub untouched : {D : Type 0} (tells : D → Option (List ℕ)) (old new : Watched D) → device_of new ≡ device_of old → has_failed new ≡ false
    → IsUntouched (stream_of tells old new)
untouched tells old new device clear = record { same = ap tells device; clear = clear }

-- the end of a job that makes this, or is refused for this
pub ends : {F : Type 0} (telling : F → Telling) (Makes : Bool → List ℕ → Type 0) (Refuses : F → Type 0) (made : Result JobOutput F) (output error : Stream)
    (status : ℕ)
    → IfOk made (λ (m : JobOutput). Makes m.is_yes (string_bytes m.text)) → IfErr made Refuses → EndsWith telling made output error status
    → JobEndsBy telling Makes Refuses output error status
ends telling Makes Refuses (Ok m) output error status makes refuses end = inl (m.is_yes, string_bytes m.text, makes, end)
ends telling Makes Refuses (Err fault) output error status makes refuses end = inr (fault, refuses, end.0, end.1)
