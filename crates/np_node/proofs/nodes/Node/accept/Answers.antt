use Rattle.std.proofs.Common.{rules}
use Rattle.np_node.proofs.NodeLemmas.{refuses-accept}
use Rattle.np_node.specs.Nodes.{state_of}
use Rattle.np_node.proofs.nodes.Node.accept.Goals as goal

pub returns-in-Err-clause-answer : goal.returns-in-Err-clause-answer
returns-in-Err-clause-answer g c =
    refuses-accept (state_of g.T.NormTable.model c.args.self.now) c.args.string.now c.in-Err.fault (c.in-Err.ensures.fault (g.T.NormTable.model c.args.self.now.table))

pub accept_new-requires-clause-absent : goal.accept_new-requires-clause-absent
accept_new-requires-clause-absent c κs = search rules
