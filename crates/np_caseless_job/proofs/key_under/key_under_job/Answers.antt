use Rattle.np_jobs.proofs.EndLemmas.{ends}
use Rattle.np_caseless_job.specs.CaselessKeysUnder.{MakesCaselessUnder, RefusesCaselessUnder}
use Rattle.np_caseless_job.specs.Tellings.{caseless_telling}
use Rattle.np_caseless_job.proofs.key_under.key_under_job.Goals as goal

pub returns : goal.returns
returns g c =
    ends caseless_telling (MakesCaselessUnder c.args.form _) (RefusesCaselessUnder _) c.made_of_pair-made.result _ _ c.finish.result
    c.made_of_pair-made.ensures.made c.made_of_pair-made.ensures.refused c.finish.ensures
