use Rattle.std.proofs.Common.{◌≡◌, ◌+◌, ℕ, Some, length, ap, sym, subst, ◌∙◌}
use Rattle.std.proofs.lemmas.List.Elements.{All-weaker}
use Rattle.np_node.proofs.ImageWriting.{image-length}
use Rattle.np_node.proofs.KeyLemmas.{fits-entry}
use Rattle.np_node.specs.Fields.{FitsFields}
use Rattle.np_node.specs.Images.{image_bytes}
use Rattle.np_node.specs.Laws.{image_of}
use Rattle.np_node.specs.Nodes.{state_of}
use Rattle.np_node.specs.Strings.{IsEntry}
use Rattle.np_versions.specs.Counts.{assigned_count}
use Rattle.np_node.proofs.nodes.Node.image_length.Goals as goal

pub entries_length-requires-clause-fits : goal.entries_length-requires-clause-fits
entries_length-requires-clause-fits g c =
    let was = c.self.inside in
    let v = g.T.NormTable.model was.table.now in
    All-weaker (IsEntry v was.form) FitsFields (fits-entry v c.self.invariant.sound was.form) was.kept c.self.invariant.entries

pub returns : goal.returns
returns g c =
    let model = g.T.NormTable.model in
    let was = c.self.inside in
    subst (λ n. 13 + c.entries_length.result ≡ length (image_bytes (image_of (Some (assigned_count (model n.table))) (state_of model n)))) c.self.view_is
    (ap (λ (n : ℕ). 13 + n) c.entries_length.ensures.length ∙ sym (image-length (assigned_count (model was.table.now)) was.form was.kept))
