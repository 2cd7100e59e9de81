use Rattle.std.proofs.Common.{[], ◌∷◌, inl, inr, refl}
use Rattle.np_jobs.proofs.OpeningLemmas.{ends_before}
use Rattle.np_jobs.specs.Audits.{AuditEnds}
use Rattle.np_jobs.specs.Chains.{readers_of}
use Rattle.np_jobs.specs.Streams.{stream_of}
use Rattle.np_program.proofs.program.run_audit.Goals as goal

pub returns-in-Err-clause-ends : goal.returns-in-Err-clause-ends
returns-in-Err-clause-ends g c = inr (c.in-Err.ensures.told, refl, refl)

pub returns-in-Ok-clause-ends : goal.returns-in-Ok-clause-ends
returns-in-Ok-clause-ends g c =
    let pair = c.in-Ok.pair in
    let after = c.audit_job.new in
    let readers = readers_of g.P.File.Read.remaining
    (pair.old_data ∷ pair.old_exclusions ∷ pair.new_data ∷ pair.new_exclusions ∷ [])
    (after.old_data_file ∷ after.old_exclusions_file ∷ after.new_data_file ∷ after.new_exclusions_file ∷ []) in
    let output = stream_of g.O.Write.contents c.args.streams.now.output after.output in
    inl (
      readers,
      c.in-Ok.ensures.files,
      ends_before g.E.Write.contents (λ error. AuditEnds readers output error c.audit_job.result)
          c.args.streams.now.error c.open_pair.new.error after.error c.in-Ok.ensures.silent c.audit_job.ensures,
    )
