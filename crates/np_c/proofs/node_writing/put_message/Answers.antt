use Rattle.std.proofs.Common.{inl, refl}
use Rattle.np_node.proofs.KeptLemmas.{kept-utf8}
use Rattle.np_node.specs.Nodes.{state_of}
use Rattle.np_c.proofs.node_writing.put_message.Goals as goal

pub returns-in_default : goal.returns-in_default
returns-in_default g c =
    let node = state_of g.T.NormTable.model c.args.node.now in
    inl (λ kept. c.in_default.ensures.none (kept-utf8 node c.requires c.args.string.now kept), record { told = c.of.ensures; room = refl })
