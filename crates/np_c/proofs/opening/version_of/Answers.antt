use Rattle.std.proofs.Common.{inl, inr, sym, subst}
use Rattle.np_versions.specs.Versions.{VersionData}
use Rattle.np_c.specs.Files.{IsNoVersion, IsVersionOf}
use Rattle.np_c.specs.declared.answers.Answer.{Answer}
use Rattle.np_c.proofs.AnswerLemmas.{refused_tables}
use Rattle.np_c.proofs.opening.version_of.Goals as goal

pub returns-in-Err-of_list-clause-refused : goal.returns-in-Err-of_list-clause-refused
returns-in-Err-of_list-clause-refused c =
    let rows = c.in-Ok.ensures.rows in
    let listed = c.in-Ok-listed_in.ensures.listed in
    let v : VersionData = record { entries = c.in-Ok.rows; exclusions = c.in-Ok-listed_in.listed } in
    let told = refused_tables v c.in-Err-of_list.fault c.in-Err-of_list.ensures.fault in
    subst (λ (a : Answer). IsNoVersion c.args.data_file.now c.args.exclusions_file.now a) (sym c.of_tables.ensures)
    (inr (inr (v, record { data_fits = c.in-Ok.ensures.fits; exclusions_fit = c.in-Ok-listed_in.ensures.fits; faultless = rows.0; rows = rows.1; readable = listed.0; listed = listed.1 }, told)))

pub returns-in-Err-clause-refused : goal.returns-in-Err-clause-refused
returns-in-Err-clause-refused c = inl c.in-Err.ensures.refused

pub returns-in-Err-listed_in-clause-refused : goal.returns-in-Err-listed_in-clause-refused
returns-in-Err-listed_in-clause-refused c = inr (inl (c.in-Ok.ensures.fits, c.in-Ok.ensures.rows.0, c.in-Err-listed_in.ensures.refused))

pub returns-in-Ok-of_list-clause-version : goal.returns-in-Ok-of_list-clause-version
returns-in-Ok-of_list-clause-version c =
    let rows = c.in-Ok.ensures.rows in
    let listed = c.in-Ok-listed_in.ensures.listed in
    subst (λ (v : VersionData). IsVersionOf c.args.data_file.now c.args.exclusions_file.now v) (sym c.in-Ok-of_list.ensures.version) (record {
      files = record { data_fits = c.in-Ok.ensures.fits; exclusions_fit = c.in-Ok-listed_in.ensures.fits; faultless = rows.0; rows = rows.1; readable = listed.0; listed = listed.1 };
      faultless = c.in-Ok-of_list.ensures.faultless;
    })
