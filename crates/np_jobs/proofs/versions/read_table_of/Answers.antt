use Rattle.std.proofs.Common.{inl, inr, refl, subst, sym}
use Rattle.std.proofs.lemmas.Result.{IfErr-weaker, IfOk-weaker, err_from_is_err_and}
use Rattle.np_versions.specs.Versions.{VersionData}
use Rattle.np_versions.specs.declared.faults.TableFault.TheVariants.{Memory}
use Rattle.np_jobs.specs.Streams.{stream_of}
use Rattle.np_jobs.specs.Versions.{WasBuilt}
use Rattle.np_jobs.proofs.versions.read_table_of.Goals as goal

pub returns-in_err-built-clause-refused : goal.returns-in_err-built-clause-refused
returns-in_err-built-clause-refused g c =
    let p = err_from_is_err_and c.from_residual.result c.from_residual.ensures.1 in
    rw (p.1, p.2) c.in_err-built.ensures.refused

pub returns-clause-built : goal.returns-clause-built
returns-clause-built g c =
    let tells = g.R.Read.remaining in
    IfOk-weaker c.table_of.result _ _
    (λ table same. subst (λ (v : VersionData). WasBuilt (stream_of tells c.args.data_file.now c.read_version.new.data_file) (stream_of tells c.args.exclusions_file.now c.read_version.new.exclusions_file) v)
    (sym same) c.in_ok-built.ensures.built)
    c.table_of.ensures.table

pub returns-clause-refused : goal.returns-clause-refused
returns-clause-refused g c =
    let built = c.in_ok-built.ensures.built in
    IfErr-weaker c.table_of.result _ _
    (λ fault is. inr (inr (c.in_ok-built.built, built.rows, built.listed, (Memory, is, inl refl))))
    c.table_of.ensures.memory
