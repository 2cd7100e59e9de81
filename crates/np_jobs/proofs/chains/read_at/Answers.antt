use Rattle.std.proofs.Common.{◌<◌, length, arith}
use Rattle.std.proofs.lemmas.Result.{IfErr-weaker, IfOk-weaker}
use Rattle.np_jobs.specs.Versions.{IsVersionFault, WasBuilt}
use Rattle.np_jobs.proofs.ChainLemmas.{at_cut}
use Rattle.np_jobs.proofs.chains.read_at.Goals as goal

pub returns : goal.returns
returns g c =
    let parts = c.split_at_mut-front.ensures in
    let needs = c.requires in
    let counts = parts.back_len in
    let some : 0 < length c.split_at_mut-front.result.1.now = omega (arith, needs, counts) in
    let at = at_cut g.F.Read.remaining c.args.number c.args.files.now c.split_at_mut-front.result.0.now c.split_at_mut-front.result.1.now c.index-front-number.result c.index-behind-0.result
    c.read_table_of.new.data_file c.read_table_of.new.exclusions_file parts.value parts.front_len some in
    record {
      built = IfOk-weaker c.read_table_of.result _ _ (λ table holds. at (λ d e. WasBuilt d e (g.T.NormTable.model table)) holds) c.read_table_of.ensures.built;
      refused = IfErr-weaker c.read_table_of.result _ _ (λ f holds. at (λ d e. IsVersionFault c.args.number d e f) holds) c.read_table_of.ensures.refused;
    }

pub bounds-front-number : goal.bounds-front-number
bounds-front-number g c = omega (arith, c.requires, c.split_at_mut-front.ensures.front_len)

pub bounds-behind-0 : goal.bounds-behind-0
bounds-behind-0 g c = omega (arith, c.requires, c.split_at_mut-front.ensures.back_len)
