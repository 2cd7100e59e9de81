use Rattle.std.proofs.Common.{inr, subst}
use Rattle.np_jobs.specs.Ends.{TellsRefusal}
use Rattle.np_jobs.specs.Streams.{Stream}
use Rattle.np_jobs.proofs.EndLemmas.{same_stream}
use Rattle.np_jobs.proofs.streaming.streaming_job.Goals as goal

pub returns-in-Err : goal.returns-in-Err
returns-in-Err g c =
    let error = same_stream g.E.Write.contents c.clear.new.self c.args.error.now c.refuse.new.error c.clear.ensures.device in
    inr (c.in-Err.fault, c.in-Err.ensures.stopped, subst (λ (s : Stream). TellsRefusal c.in-Err.fault s c.refuse.result) error c.refuse.ensures)
