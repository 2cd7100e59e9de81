use Rattle.std.proofs.Common.{inr, refl}
use Rattle.std.proofs.lemmas.Result.{err_from_is_err_and}
use Rattle.np_jobs.proofs.compare.make_comparison.Goals as goal

pub returns-in_err-is_yes-clause-refused : goal.returns-in_err-is_yes-clause-refused
returns-in_err-is_yes-clause-refused g c =
    let p = err_from_is_err_and c.from_residual.result c.from_residual.ensures.1 in
    rw (p.1, p.2) (inr (c.in-Some.first.now, c.in-Some.second.now, c.in-Some.ensures.some, c.in_err-is_yes.ensures.refused))

pub returns-in-Ok-clause-answer : goal.returns-in-Ok-clause-answer
returns-in-Ok-clause-answer g c =
    record { first = c.in-Some.first.now; second = c.in-Some.second.now; lines = c.in-Some.ensures.some; is = c.in_ok-is_yes.ensures.equal; bytes_are = c.in-Ok.ensures }

pub returns-in-Err-clause-refused : goal.returns-in-Err-clause-refused
returns-in-Err-clause-refused g c =
    let is = c.in_ok-is_yes.ensures.equal in
    inr (c.in-Some.first.now, c.in-Some.second.now, c.in-Some.ensures.some, inr (refl, is.first_assigned, is.second_assigned))
