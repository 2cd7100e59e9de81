use Rattle.std.proofs.Common.{[]}
use Rattle.std.proofs.lemmas.Result.{IfOk-weaker}
use Rattle.clap.specs.Words.{found_of, rows_of}
use Rattle.np_words.specs.Words.{names_of}
use Rattle.np_lines_job.specs.LineWords.{form_and_files_of}
use Rattle.np_lines_job.proofs.LineMatchLemmas.{of_asked, of_not_asked}
use Rattle.np_lines_job.proofs.words.form_and_files_in.Goals as goal

pub returns-clause-ok : goal.returns-clause-ok
returns-clause-ok c =
    let both = form_and_files_of (rows_of (found_of c.args.found.now)) in
    IfOk-weaker c.form_and_files.result _ _ (λ p asked. of_asked both (p.0, names_of p.1) (asked [])) c.form_and_files.ensures.ok

pub returns-clause-usage : goal.returns-clause-usage
returns-clause-usage c = λ usage. of_not_asked (form_and_files_of (rows_of (found_of c.args.found.now))) (c.form_and_files.ensures.usage usage [])
