use Rattle.std.proofs.Common.{ℕ, ◌*◌, ◌+◌, ◌/◌, ◌<◌, ◌∷◌, [], length, map, sym, ap, subst, ◌∙◌, arith}
use Rattle.std.proofs.lemmas.List.{map-append}
use Rattle.std.proofs.lemmas.Result.{err_from_is_err_and}
use Rattle.np_jobs.specs.Chains.{LacksOne, readers_of}
use Rattle.np_jobs.specs.inside.ChainSteps.{AreReadUpTo}
use Rattle.np_jobs.proofs.ChainLemmas.{all_read, lacks_memory, none_read, one_lacks, one_more}
use Rattle.np_jobs.proofs.chains.read_each.Goals as goal

half_bound : (n : ℕ) → n < 2 * (n / 2) + 2
half_bound n = omega arith

pub loop-number-init : goal.loop-number-init
loop-number-init g c =
    let tells = g.F.Read.remaining in
    let model = g.T.NormTable.model in
    subst (λ versions. AreReadUpTo tells 0 c.args.files.now c.args.files.now versions) (sym (ap (map model) c.new-tables.ensures.items)) (none_read tells c.args.files.now)

pub loop-number-preserved : goal.loop-number-preserved
loop-number-preserved g c =
    let tells = g.F.Read.remaining in
    let model = g.T.NormTable.model in
    let more = ap (map model) c.in-Ok.ensures.items ∙ map-append model c.loop-number.tables.items (c.in_ok-table.table ∷ []) in
    subst (λ versions. AreReadUpTo tells (c.loop-number.number + 1) c.args.files.now c.read_at.new.files versions) (sym more)
    (one_more tells c.loop-number.number c.args.files.now c.loop-number.files c.read_at.new.files (map model c.loop-number.tables.items) c.loop-number.invariant (model c.in_ok-table.table) c.in_ok-table.ensures.built)

pub returns-in_err-table-clause-refused : goal.returns-in_err-table-clause-refused
returns-in_err-table-clause-refused g c =
    let tells = g.F.Read.remaining in
    let p = err_from_is_err_and c.from_residual.result c.from_residual.ensures.1 in
    rw (p.1, p.2)
    (one_lacks tells c.loop-number.number c.args.files.now c.loop-number.files c.read_at.new.files (map g.T.NormTable.model c.loop-number.tables.items) c.loop-number.invariant _ c.requires c.in_err-table.ensures.refused)

pub returns-in-Err-clause-refused : goal.returns-in-Err-clause-refused
returns-in-Err-clause-refused g c =
    let tells = g.F.Read.remaining in
    subst (λ fault. LacksOne (readers_of tells c.args.files.now c.read_at.new.files) fault) (sym c.want_of_memory.ensures)
    (one_lacks tells c.loop-number.number c.args.files.now c.loop-number.files c.read_at.new.files (map g.T.NormTable.model c.loop-number.tables.items) c.loop-number.invariant _ c.requires
    (lacks_memory tells c.loop-number.number (g.T.NormTable.model c.in_ok-table.table) c.loop-number.files c.read_at.new.files c.in_ok-table.ensures.built))

pub returns-clause-built : goal.returns-clause-built
returns-clause-built g c =
    let half = half_bound (length c.args.files.now) in
    let end = c.loop-number-test.false in
    let few : length c.args.files.now < 2 * c.loop-number.number + 2 = omega (arith, half, end) in
    all_read g.F.Read.remaining c.loop-number.number c.args.files.now c.loop-number.files (map g.T.NormTable.model c.loop-number.tables.items) c.loop-number.invariant few
