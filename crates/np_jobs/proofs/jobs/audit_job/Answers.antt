use Rattle.np_jobs.specs.Audits.{MakesAudit, RefusesAudit}
use Rattle.np_jobs.specs.Tellings.{telling_of}
use Rattle.np_jobs.proofs.EndLemmas.{ends}
use Rattle.np_jobs.proofs.jobs.audit_job.Goals as goal

pub returns : goal.returns
returns g c =
    ends telling_of (MakesAudit _) (RefusesAudit _) c.made_of_versions-made.result _ _ c.finish.result c.made_of_versions-made.ensures.made c.made_of_versions-made.ensures.refused c.finish.ensures
