use Rattle.std.proofs.Common.{inr, subst}
use Rattle.np_jobs.specs.Ends.{TellsAs}
use Rattle.np_jobs.specs.Streams.{Stream}
use Rattle.np_jobs.proofs.EndLemmas.{same_stream}
use Rattle.np_lines_job.specs.CaselessLineKeys.{caseless_lines_telling}
use Rattle.np_lines_job.proofs.caseless.caseless_lines_job.Goals as goal

pub returns-in-Err : goal.returns-in-Err
returns-in-Err g c =
    let error = same_stream g.E.Write.contents c.clear.new.self c.args.streams.now.error c.refuse.new.error c.clear.ensures.device in
    inr (c.in-Err.fault, c.in-Err.ensures.stopped, subst (λ (s : Stream). TellsAs (caseless_lines_telling c.in-Err.fault) s c.refuse.result) error c.refuse.ensures)
