use Rattle.np_node.proofs.nodes.Node.restore_entry.Goals as goal

pub returns-in-Ok-Kept-clause-err : goal.returns-in-Ok-Kept-clause-err
returns-in-Ok-Kept-clause-err g c = tt
