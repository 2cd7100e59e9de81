use Rattle.std.proofs.Common.{◌∙◌, sym}
use Rattle.np_caseless.specs.Folded.{folded_by}
use Rattle.np_caseless.proofs.ImageLemmas.{parts_of_folding}
use Rattle.np_caseless.proofs.LentLemmas.{images_of_last}
use Rattle.np_caseless.proofs.quick_images.folded_image.Goals as goal

pub returns-then-are_letter_parts-clause-images : goal.returns-then-are_letter_parts-clause-images
returns-then-are_letter_parts-clause-images g c =
    let v = folded_by (g.T.NormTable.model c.args.table.now) c.args.foldings.now in
    let folding = c.folding_of-folding.result.now in
    let parts = c.in_ok-parts.ensures ∙ sym (parts_of_folding v c.args.compat c.args.code.now folding c.folding_of-folding.ensures) in
    images_of_last v c.args.compat c.args.code.now c.in_ok-parts.parts.now folding (c.are_letter_parts.ensures c.if-are_letter_parts.true parts)
    c.in_ok-parts.ensures

pub returns-then-are_last-clause-images : goal.returns-then-are_last-clause-images
returns-then-are_last-clause-images g c =
    images_of_last (folded_by (g.T.NormTable.model c.args.table.now) c.args.foldings.now) c.args.compat c.args.code.now c.in_ok-parts.parts.now
    c.folding_of-folding.result.now (c.are_last.ensures c.if-are_last.true) c.in_ok-parts.ensures
