use Rattle.np_jobs.proofs.opening.open_file.Goals as goal

pub returns-in-Err-clause-told : goal.returns-in-Err-clause-told
returns-in-Err-clause-told g c = c.refuse_file.ensures
