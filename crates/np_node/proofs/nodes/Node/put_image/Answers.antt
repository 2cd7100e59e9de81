use Rattle.std.proofs.lemmas.List.Elements.{All-weaker}
use Rattle.np_node.proofs.KeyLemmas.{fits-entry}
use Rattle.np_node.specs.Fields.{FitsFields}
use Rattle.np_node.specs.Strings.{IsEntry}
use Rattle.np_node.proofs.nodes.Node.put_image.Goals as goal

pub put_image_of-requires-clause-fits : goal.put_image_of-requires-clause-fits
put_image_of-requires-clause-fits g c =
    let was = c.self.inside in
    let v = g.T.NormTable.model was.table.now in
    All-weaker (IsEntry v was.form) FitsFields (fits-entry v c.self.invariant.sound was.form) was.kept c.self.invariant.entries
