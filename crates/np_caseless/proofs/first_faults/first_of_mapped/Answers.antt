use Rattle.std.proofs.Common.{◌+◌, length, arith, sym, subst}
use Rattle.np_caseless.specs.Folded.{folded_by}
use Rattle.np_caseless.specs.inside.FirstFaults.{Below, IsFirstOf, IsQuietCodeAt}
use Rattle.np_caseless.proofs.FirstLemmas.{of_fewer, of_quiet_code, one_more}
use Rattle.np_caseless.proofs.first_faults.first_of_mapped.Goals as goal

pub loop-code-preserved : goal.loop-code-preserved
loop-code-preserved g c =
    let v = folded_by (g.T.NormTable.model c.args.table.now) c.args.foldings.now in
    let at = IsQuietCodeAt v c.args.mapped.now in
    let i = c.loop-code.code-index in
    subst (IsFirstOf v (Below at (i + 1))) (sym c.sooner-first.ensures)
    (one_more v at i c.loop-code.first c.in_ok-fault.fault c.loop-code.invariant
    (of_quiet_code v c.args.mapped.now i c.code-item.result c.in_ok-fault.fault c.loop-code-test.true c.code-item.is c.in_ok-fault.ensures))

pub returns : goal.returns
returns g c =
    let v = folded_by (g.T.NormTable.model c.args.table.now) c.args.foldings.now in
    let at = IsQuietCodeAt v c.args.mapped.now in
    of_fewer v (Below at c.loop-code.code-index) (Below at (length c.args.mapped.now)) c.loop-code.first
    (λ d h. (h.0, (let lt = h.1 in omega arith), h.2)) c.loop-code.invariant
