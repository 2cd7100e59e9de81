use Rattle.std.proofs.Common.{rules}
use Rattle.np_node.proofs.NodeLemmas.{refuses-keep}
use Rattle.np_node.specs.Nodes.{state_of}
use Rattle.np_node.proofs.nodes.Node.keep_string.Goals as goal

pub returns-in-Err-clause-answer : goal.returns-in-Err-clause-answer
returns-in-Err-clause-answer g c =
    refuses-keep (state_of g.T.NormTable.model c.args.self.now) c.args.string.now c.in-Err.fault (c.in-Err.ensures.fault (g.T.NormTable.model c.args.self.now.table))

pub keep_text-requires-clause-absent : goal.keep_text-requires-clause-absent
keep_text-requires-clause-absent c κs = search rules
