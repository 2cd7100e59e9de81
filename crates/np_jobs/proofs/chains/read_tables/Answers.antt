use Rattle.std.proofs.Common.{length, map, subst, le_refl}
use Rattle.std.proofs.lemmas.Result.{IfErr-weaker, IfOk-weaker}
use Rattle.np_jobs.specs.Chains.{LacksOne, WereBuilt}
use Rattle.np_jobs.proofs.ChainLemmas.{all_clear, readers_cleared}
use Rattle.np_jobs.proofs.chains.read_tables.Goals as goal

pub read_each-requires : goal.read_each-requires
read_each-requires g c = all_clear (length c.args.files.now) c.args.files.now c.clear_all.new.files (le_refl _) c.clear_all.ensures

pub returns-clause-built : goal.returns-clause-built
returns-clause-built g c =
    IfOk-weaker c.read_each.result _ _ (λ tables built. subst (λ readers. WereBuilt readers (map g.T.NormTable.model tables.items)) (readers_cleared g.F.Read.remaining (length c.args.files.now) c.args.files.now c.clear_all.new.files _ c.clear_all.ensures) built)
    c.read_each.ensures.built

pub returns-clause-refused : goal.returns-clause-refused
returns-clause-refused g c =
    IfErr-weaker c.read_each.result _ _ (λ fault lacks. subst (λ readers. LacksOne readers fault) (readers_cleared g.F.Read.remaining (length c.args.files.now) c.args.files.now c.clear_all.new.files _ c.clear_all.ensures) lacks)
    c.read_each.ensures.refused
