use Rattle.std.proofs.Common.{refl}
use Rattle.np_node.proofs.KeptLemmas.{kept-utf8}
use Rattle.np_node.specs.Nodes.{state_of}
use Rattle.np_c.proofs.keeping.forget_bytes.Goals as goal

pub returns-in-None : goal.returns-in-None
returns-in-None g c =
    let node = state_of g.T.NormTable.model c.args.node.now in
    (λ kept. c.in-None.ensures.none (kept-utf8 node c.requires c.args.string.now kept), refl)
