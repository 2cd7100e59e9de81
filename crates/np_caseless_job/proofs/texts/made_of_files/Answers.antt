use Rattle.std.proofs.Common.{inl, inr, refl, string_bytes, subst}
use Rattle.std.proofs.lemmas.Result.{err_from_is_err_and}
use Rattle.np_jobs.specs.Streams.{Stream}
use Rattle.np_jobs.specs.Texts.{IsMadeOfText, IsTextFault}
use Rattle.np_jobs.proofs.EndLemmas.{same_stream, untouched}
use Rattle.np_caseless_job.proofs.texts.made_of_files.Goals as goal

pub returns-in_err-made_of_input-clause-refused : goal.returns-in_err-made_of_input-clause-refused
returns-in_err-made_of_input-clause-refused g c =
    let fault = c.in_err-made_of_input.field-0.0 in
    let table = c.in_ok-table.table in
    let input = same_stream g.I.Read.remaining c.clear.new.self c.args.input.now c.made_of_input.new.input c.clear.ensures.device in
    let refused = subst (λ (s : Stream). IsTextFault (g.M.FoldedMaker.refuses c.args.maker.now table) s fault) input c.in_err-made_of_input.ensures.refused in
    let p = err_from_is_err_and c.from_residual-in_err-made_of_input.result c.from_residual-in_err-made_of_input.ensures.1 in
    rw (p.1, p.2) (inr (table, c.in_ok-table.ensures.folded, (fault, refl, refused)))

pub returns-in_err-table-clause-refused : goal.returns-in_err-table-clause-refused
returns-in_err-table-clause-refused g c =
    let input = untouched g.I.Read.remaining c.args.input.now c.clear.new.self c.clear.ensures.device c.clear.ensures.clear in
    let p = err_from_is_err_and c.from_residual.result c.from_residual.ensures.1 in
    rw (p.1, p.2) (inl ((c.in_err-table.field-0.0, refl, c.in_err-table.ensures.refused), input))

pub returns-clause-made : goal.returns-clause-made
returns-clause-made g c =
    let made = c.in_ok-made_of_input.field-0 in
    let table = c.in_ok-table.table in
    let input = same_stream g.I.Read.remaining c.clear.new.self c.args.input.now c.made_of_input.new.input c.clear.ensures.device in
    record {
      v = table;
      folded = c.in_ok-table.ensures.folded;
      made = subst (λ (s : Stream). IsMadeOfText (g.M.FoldedMaker.makes c.args.maker.now table) s made.is_yes (string_bytes made.text)) input c.in_ok-made_of_input.ensures.made;
    }
