use Rattle.std.proofs.Common.{inl, refl}
use Rattle.np_jobs.specs.Streams.{stream_of}
use Rattle.np_jobs.proofs.VersionLemmas.{built_over, fault_over, has_exclusions}
use Rattle.np_jobs.proofs.versions.version_over.Goals as goal

pub returns-in-Ok-clause-built : goal.returns-in-Ok-clause-built
returns-in-Ok-clause-built g c =
    let file = stream_of g.R.Read.remaining c.args.exclusions_file.now c.read_exclusions.new.source in
    let spans = c.in-Ok.exclusions in
    let lists = has_exclusions file spans c.in-Ok.ensures.listed (λ e. let clash = c.in-Ok.ensures.failed.1 e in absurd (cc)) in
    built_over c.args.rows file spans c.version_of.result lists c.version_of.ensures.version c.version_of.ensures.faultless

pub returns-in-Ok-clause-refused : goal.returns-in-Ok-clause-refused
returns-in-Ok-clause-refused g c =
    let file = stream_of g.R.Read.remaining c.args.exclusions_file.now c.read_exclusions.new.source in
    let spans = c.in-Ok.exclusions in
    let lists = has_exclusions file spans c.in-Ok.ensures.listed (λ e. let clash = c.in-Ok.ensures.failed.1 e in absurd (cc)) in
    fault_over c.args.version c.args.rows file spans c.version_of.result lists c.version_of.ensures.refused

pub returns-in-Err-clause-refused : goal.returns-in-Err-clause-refused
returns-in-Err-clause-refused g c =
    let failed = c.in-Err.ensures.failed in
    inl (c.in-Err.fault, refl, record { how = c.in-Err.ensures.refused; failed = (λ same. failed.0 (cc), λ bad. let same = failed.1 bad in cc) })
