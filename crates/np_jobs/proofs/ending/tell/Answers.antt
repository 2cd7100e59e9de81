use Rattle.std.proofs.Common.{◌≡◌, ◌↔◌, ◌≤◌, ℕ, Bool, true, false, List, length, take, Result, Ok, Err, OnOk, OnErr, IsErr, inl, inr, refl}
use Rattle.std.proofs.lemmas.Bool.{false≢true}
use Rattle.std.specs.Io.KnownBytes.{Appends}
use Rattle.np_jobs.specs.Ends.{IsTold}
use Rattle.np_jobs.specs.Streams.{Stream}
use Rattle.np_jobs.proofs.ending.tell.Goals as goal

clear_of : (b : Bool) → (b ≡ true → false ≡ true) → b ≡ false
clear_of true past = absurd (false≢true (past refl))
clear_of false past = refl

is_told : {A E : Type 0} (result : Result A E) (s : Stream) (line : List ℕ) → OnOk result (Appends s.before s.after line)
    → OnErr result ((n : ℕ) × (n ≤ length line) × Appends s.before s.after (take n line)) → IsErr result ↔ (s.failed ≡ true) → IsTold s line
is_told (Ok x) s line ok err failed = inl (record { written = ok; clear = clear_of s.failed failed.1 })
is_told (Err x) s line ok err failed = inr (record { count = err.0; fits = err.1; written = err.2; failed = failed.0 refl })

pub returns : goal.returns
returns g c = rw (← c.as_bytes.ensures.value) (is_told c.write_out.result _ _ c.write_out.ensures.ok c.write_out.ensures.err c.write_out.ensures.failed)
