use Rattle.np_caseless.proofs.LentLemmas.{one_behind}
use Rattle.np_caseless.proofs.lent_parts.behind.Goals as goal

pub loop-code-preserved : goal.loop-code-preserved
loop-code-preserved c =
    one_behind c.args.list.now c.args.front.now c.loop-code.rest.now c.in_ok-split.split.1.now c.loop-code.code-index c.code-item.result
    c.in_ok-split.split.0.now
    c.loop-code-test.true c.code-item.is c.loop-code.invariant c.in_ok-split.ensures.cases.0 (cc)
