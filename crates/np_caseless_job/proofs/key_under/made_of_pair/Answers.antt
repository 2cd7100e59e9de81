use Rattle.std.proofs.Common.{inr, string_bytes, subst}
use Rattle.std.proofs.lemmas.Result.{IfErr-weaker, IfOk-weaker}
use Rattle.np_jobs.proofs.EndLemmas.{same_stream}
use Rattle.np_jobs.specs.Streams.{Stream}
use Rattle.np_jobs.specs.Texts.{IsMadeOfText}
use Rattle.np_caseless_job.specs.CaselessKeysUnder.{IsCaselessUnder, RefusesInput}
use Rattle.np_caseless_job.proofs.key_under.made_of_pair.Goals as goal

pub returns-clause-refused : goal.returns-clause-refused
returns-clause-refused g c =
    let input = same_stream g.I.Read.remaining c.clear.new.self c.args.input.now c.made_of_tables.new.input c.clear.ensures.device in
    let old = c.in_ok-both.both.0 in
    let new = c.in_ok-both.both.1 in
    IfErr-weaker c.made_of_tables.result _ _
    (λ fault lacks. inr (old, new, c.in_ok-both.ensures.folded, subst (λ (s : Stream). RefusesInput old new s fault) input lacks))
    c.made_of_tables.ensures.refused

pub returns-clause-made : goal.returns-clause-made
returns-clause-made g c =
    let input = same_stream g.I.Read.remaining c.clear.new.self c.args.input.now c.made_of_tables.new.input c.clear.ensures.device in
    let old = c.in_ok-both.both.0 in
    let new = c.in_ok-both.both.1 in
    IfOk-weaker c.made_of_tables.result _ _
    (λ m done. record {
      old = old;
      new = new;
      folded = c.in_ok-both.ensures.folded;
      extends = done.extends;
      made = subst (λ (s : Stream). IsMadeOfText (IsCaselessUnder c.args.form old new) s m.is_yes (string_bytes m.text)) input done.answered;
    })
    c.made_of_tables.ensures.made
