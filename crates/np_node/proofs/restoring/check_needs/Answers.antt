use Rattle.std.proofs.Common.{arith, sym, subst}
use Rattle.np_node.specs.Restoring.{IsOlder}
use Rattle.np_node.proofs.restoring.check_needs.Goals as goal

pub returns-clause-ok : goal.returns-clause-ok
returns-clause-ok g c =
    subst (λ v. ¬ IsOlder v c.args.needs) c.version.ensures.same
    (subst (λ n. ¬ IsOlder c.version.result.now n) (sym c.in-Some.is) (λ older. omega (arith, older, c.count-have.ensures)))
