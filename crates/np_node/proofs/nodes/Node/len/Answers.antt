use Rattle.std.proofs.Common.{length, ap, ◌∙◌}
use Rattle.np_node.proofs.nodes.Node.len.Goals as goal

pub returns-clause-count : goal.returns-clause-count
returns-clause-count g c = c.len.ensures ∙ ap (λ n. length n.entries) c.self.view_is
