use Rattle.std.proofs.Common.{subst}
use Rattle.np_node.proofs.KeptLemmas.{kept-fits}
use Rattle.np_node.specs.Nodes.{state_of, IsNode}
use Rattle.np_node.proofs.nodes.Node.message_of.Goals as goal

pub new-requires-clause-key : goal.new-requires-clause-key
new-requires-clause-key g c =
    let model = g.T.NormTable.model in
    let is = subst (λ n. IsNode (state_of model n)) c.self.view_is c.self.invariant in
    (kept-fits (state_of model c.args.self.now) is (record { string = c.args.string.now; key = c.in_ok-key.key.now }) c.in_ok-key.ensures.some).key
