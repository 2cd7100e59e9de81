use Rattle.std.proofs.Common.{inr, subst}
use Rattle.std.proofs.lemmas.Result.{IfErr-weaker, IfOk-weaker}
use Rattle.np_jobs.specs.KeysUnder.{RefusesPair}
use Rattle.np_jobs.specs.Streams.{Stream}
use Rattle.np_jobs.specs.inside.UnderSteps.{MakesOfPair}
use Rattle.np_jobs.proofs.EndLemmas.{same_stream}
use Rattle.np_jobs.proofs.UnderLemmas.{made_under}
use Rattle.np_jobs.proofs.key_under.made_of_versions.Goals as goal

pub returns-clause-made : goal.returns-clause-made
returns-clause-made g c =
    let input = same_stream g.I.Read.remaining c.clear.new.self c.args.input.now c.made_of_pair.new.input c.clear.ensures.device in
    let table = g.T.NormTable.model c.in_ok-old.table in
    IfOk-weaker c.made_of_pair.result _ _
    (λ m makes. made_under c.args.form _ _ c.in_ok-old.old table m c.in_ok-old.ensures.built (subst (λ (s : Stream). MakesOfPair c.args.form c.in_ok-old.old table s m) input makes))
    c.made_of_pair.ensures.made

pub returns-clause-refused : goal.returns-clause-refused
returns-clause-refused g c =
    let input = same_stream g.I.Read.remaining c.clear.new.self c.args.input.now c.made_of_pair.new.input c.clear.ensures.device in
    let table = g.T.NormTable.model c.in_ok-old.table in
    IfErr-weaker c.made_of_pair.result _ _
    (λ fault lacks. inr (c.in_ok-old.old, table, c.in_ok-old.ensures.built, subst (λ (s : Stream). RefusesPair c.in_ok-old.old table s fault) input lacks))
    c.made_of_pair.ensures.refused
