use Rattle.np_jobs.specs.KeysUnder.{MakesUnder, RefusesUnder}
use Rattle.np_jobs.specs.Tellings.{telling_of}
use Rattle.np_jobs.proofs.EndLemmas.{ends}
use Rattle.np_jobs.proofs.jobs.key_under_job.Goals as goal

pub returns : goal.returns
returns g c =
    ends telling_of (MakesUnder c.args.form _) (RefusesUnder _) c.made_of_versions-made.result _ _ c.finish.result c.made_of_versions-made.ensures.made c.made_of_versions-made.ensures.refused c.finish.ensures
