-- From what was found in the words of a program to its end.
use Rattle.std.proofs.Common.{◌≡◌, ℕ, List, Option, Ok, Err, Result, IfErr, IfOk, ap, inl, inr, refl}
use Rattle.np_code_points.specs.declared.channels.watched.Watched.{Watched}
use Rattle.np_code_points.specs.Watched.{device_of}
use Rattle.np_jobs.specs.Ends.{TellsRefusal, IsTold}
use Rattle.np_jobs.specs.Programs.{IsProgramEnd, IsRun, JobEnd}
use Rattle.np_jobs.specs.Streams.{stream_of}
use Rattle.np_jobs.specs.declared.faults.JobFault.TheVariants.{Memory}
use Rattle.np_words.specs.declared.faults.WordsFault.{WordsFault}
use Rattle.np_words.specs.declared.faults.WordsFault.TheVariants as faults

pub ended : {J C D E : Type 0} (Asks : List (List ℕ) → J → Type 0) (AsksNothing : List (List ℕ) → Type 0) (files_of : J → List (List ℕ)) (usage : List ℕ)
    (Ends : JobEnd J)
    (Gives : List ℕ → Option (List ℕ) → Type 0) (Lacks : List ℕ → Type 0) (tells : C → Option (List ℕ)) (holds : D → Option (List ℕ))
    (told : E → Option (List ℕ))
    (words : List (List ℕ)) (found : Result J WordsFault)
    (input_old input_new : Watched C) (old new : Watched D) (error_old error_new : Watched E) (status : ℕ)
    → IfOk found (Asks words)
    → (found ≡ Err faults.Usage → AsksNothing words)
    → IfOk found (λ job. IsRun files_of Ends Gives Lacks job (stream_of tells input_old input_new) (stream_of holds old new)
    (stream_of told error_old error_new) status)
    → (found ≡ Err faults.Usage → IsTold (stream_of told error_old error_new) usage × (status ≡ 2))
    → (found ≡ Err faults.Memory → TellsRefusal Memory (stream_of told error_old error_new) status)
    → IfErr found (λ _. input_new ≡ input_old)
    → IfErr found (λ _. new ≡ old)
    → IsProgramEnd Asks AsksNothing files_of usage Ends Gives Lacks words (stream_of tells input_old input_new) (stream_of holds old new)
    (stream_of told error_old error_new) status
ended Asks AsksNothing files_of usage Ends Gives Lacks tells holds told words
    (Ok job) input_old input_new old new error_old error_new status asked none run refused memory unread unwritten =
    inl (job, asked, run)
ended Asks AsksNothing files_of usage Ends Gives Lacks tells holds told words
    (Err faults.Usage) input_old input_new old new error_old error_new status asked none run refused memory unread unwritten =
    inr (inl (none refl, (refused refl).0, (refused refl).1), ap (λ d. tells (device_of d)) unread, ap (λ d. holds (device_of d)) unwritten)
ended Asks AsksNothing files_of usage Ends Gives Lacks tells holds told words
    (Err faults.Memory) input_old input_new old new error_old error_new status asked none run refused memory unread unwritten =
    inr (inr (memory refl), ap (λ d. tells (device_of d)) unread, ap (λ d. holds (device_of d)) unwritten)
