use Rattle.std.proofs.Common.{inr, [], ◌∷◌}
use Rattle.std.proofs.lemmas.Result.{err_from_is_err_and}
use Rattle.np_jobs.specs.Ends.{TellsRefusal}
use Rattle.np_jobs.specs.declared.faults.JobFault.TheVariants.{Memory}
use Rattle.np_jobs.proofs.OpeningLemmas.{ends_before}
use Rattle.np_jobs.proofs.opening.open_behind.Goals as goal

pub returns-in_err-both-clause-told : goal.returns-in_err-both-clause-told
returns-in_err-both-clause-told g c =
    let p = err_from_is_err_and c.from_residual.result c.from_residual.ensures.1 in
    rw (p.1, p.2) c.in_err-both.ensures.told

pub returns-in-Ok-clause-opened : goal.returns-in-Ok-clause-opened
returns-in-Ok-clause-opened g c =
    record { more = c.in_ok-both.both.0 ∷ c.in_ok-both.both.1 ∷ []; are = c.in-Ok.ensures.both; opened = c.in_ok-both.ensures.files }

pub returns-in-Err-clause-told : goal.returns-in-Err-clause-told
returns-in-Err-clause-told g c =
    inr (ends_before g.E.Write.contents (λ error. TellsRefusal Memory error c.refuse.result) c.args.error.now c.open_version.new.error c.refuse.new.error c.in_ok-both.ensures.silent c.refuse.ensures)
