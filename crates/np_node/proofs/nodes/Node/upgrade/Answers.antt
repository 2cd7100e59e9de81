use Rattle.std.proofs.Common.{refl, subst}
use Rattle.np_chain.specs.Chain.{Extends}
use Rattle.np_node.proofs.NodeLemmas.{IsNode-later}
use Rattle.np_node.proofs.nodes.Node.upgrade.Goals as goal

pub invariant_of-self : goal.invariant_of-self
invariant_of-self g c =
    let model = g.T.NormTable.model in
    let was = c.self.inside in
    let extends = c.in_ok-extends.ensures.extends.0 refl in
    IsNode-later c.stability.ensures (record { version = model was.table.now; form = was.form; room = was.room; entries = was.kept }) (model c.args.table.now) c.version-2.ensures.sound
    (subst (λ v. Extends v (model c.args.table.now)) c.version.ensures.same (subst (λ w. Extends c.version.result.now w) c.version-2.ensures.same extends)) c.self.invariant

pub returns-clause-extends : goal.returns-clause-extends
returns-clause-extends g c =
    let model = g.T.NormTable.model in
    let extends = c.in_ok-extends.ensures.extends.0 refl in
    let known = subst (λ w. Extends c.version.result.now w) c.version-2.ensures.same extends in
    let later = subst (λ v. Extends v (model c.args.table.now)) c.version.ensures.same known in
    (λ h. subst (λ n. Extends (model n.table) (model c.args.table.now)) c.self.view_is later, λ e. refl)
