use Rattle.std.proofs.Common.{subst}
use Rattle.np_node.proofs.ForgetLemmas.{forgotten}
use Rattle.np_node.specs.Forgetting.{Forgets}
use Rattle.np_node.proofs.nodes.Node.forget.Goals as goal

pub invariant_of-self : goal.invariant_of-self
invariant_of-self g c =
    let was = c.self.inside in
    (forgotten g.T.NormTable.model (record { table = was.table.now; form = was.form; room = was.room; entries = was.kept }) c.remove.new.self c.args.string.now c.remove.result c.self.invariant c.remove.ensures).node

pub returns : goal.returns
returns g c =
    let was = c.self.inside in
    subst (λ old. Forgets old (record { table = was.table.now; form = was.form; room = was.room; entries = c.remove.new.self }) c.args.string.now c.remove.result) c.self.view_is
    (forgotten g.T.NormTable.model (record { table = was.table.now; form = was.form; room = was.room; entries = was.kept }) c.remove.new.self c.args.string.now c.remove.result c.self.invariant c.remove.ensures).forgets
