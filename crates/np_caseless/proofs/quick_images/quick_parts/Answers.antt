use Rattle.np_caseless.specs.Folded.{folded_by}
use Rattle.np_caseless.proofs.LentLemmas.{images_of_last}
use Rattle.np_caseless.proofs.quick_images.quick_parts.Goals as goal

pub returns-then-are_last-clause-images : goal.returns-then-are_last-clause-images
returns-then-are_last-clause-images g c =
    images_of_last (folded_by (g.T.NormTable.model c.args.table.now) c.args.foldings.now) c.args.compat c.args.code c.in_ok-parts.parts.now c.args.images.now
    (c.are_last.ensures c.if-are_last.true) c.in_ok-parts.ensures
