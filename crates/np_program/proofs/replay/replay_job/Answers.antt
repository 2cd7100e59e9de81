use Rattle.np_jobs.specs.Tellings.{telling_of}
use Rattle.np_jobs.proofs.EndLemmas.{ends}
use Rattle.np_program.specs.Replays.{MakesReplay, RefusesReplay}
use Rattle.np_program.proofs.replay.replay_job.Goals as goal

pub returns : goal.returns
returns g c =
    ends telling_of (MakesReplay c.args.form _) (RefusesReplay _) c.made_of_files-made.result _ _ c.finish.result c.made_of_files-made.ensures.made c.made_of_files-made.ensures.refused c.finish.ensures
