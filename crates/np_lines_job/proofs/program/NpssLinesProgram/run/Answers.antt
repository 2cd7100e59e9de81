use Rattle.np_lines_job.proofs.program.NpssLinesProgram.run.Goals as goal

pub returns-in-Answer : goal.returns-in-Answer
returns-in-Answer g c = rw c.in-Answer.is c.run_over_version.ensures
