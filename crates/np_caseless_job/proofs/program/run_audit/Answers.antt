use Rattle.std.proofs.Common.{inl, inr, refl}
use Rattle.np_jobs.proofs.OpeningLemmas.{ends_before}
use Rattle.np_jobs.specs.Streams.{stream_of}
use Rattle.np_caseless_job.specs.CaselessAudits.{FoldedAuditEnds}
use Rattle.np_caseless_job.specs.FoldedVersions.{folded_readers_of}
use Rattle.np_caseless_job.specs.Pairs.{PairReaders}
use Rattle.np_caseless_job.proofs.program.run_audit.Goals as goal

pub returns-in-Err-clause-ends : goal.returns-in-Err-clause-ends
returns-in-Err-clause-ends g c = inr (c.in-Err.ensures.told, refl, refl)

pub returns-in-Ok-clause-ends : goal.returns-in-Ok-clause-ends
returns-in-Ok-clause-ends g c =
    let tells = g.P.File.Read.remaining in
    let before = c.args.streams.now in
    let after = c.audit_job.new.streams in
    let readers : PairReaders = record {
      first = folded_readers_of tells c.in-Ok.pair.first c.audit_job.new.pair.first;
      second = folded_readers_of tells c.in-Ok.pair.second c.audit_job.new.pair.second;
    } in
    let output = stream_of g.O.Write.contents before.output after.output in
    inl (
      readers,
      c.in-Ok.ensures.files,
      ends_before g.E.Write.contents (λ error. FoldedAuditEnds readers output error c.audit_job.result)
          before.error c.open_pair.new.error after.error c.in-Ok.ensures.silent c.audit_job.ensures.ends,
    )
