use Rattle.np_jobs.specs.Keys.{IsKeyOutput, LacksKeyOutput}
use Rattle.np_jobs.specs.Texts.{MakesOfText, RefusesText}
use Rattle.np_jobs.specs.Tellings.{telling_of}
use Rattle.np_jobs.proofs.EndLemmas.{ends}
use Rattle.np_jobs.proofs.jobs.key_job.Goals as goal

pub returns : goal.returns
returns g c =
    ends telling_of (MakesOfText (IsKeyOutput c.args.form) _) (RefusesText LacksKeyOutput _) c.made_of_files-made.result _ _ c.finish.result c.made_of_files-made.ensures.made c.made_of_files-made.ensures.refused c.finish.ensures
