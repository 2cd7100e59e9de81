use Rattle.np_caseless.proofs.folded_tables.FoldedTable.known_images.Goals as goal

pub returns-clause-simple : goal.returns-clause-simple
returns-clause-simple g c = c.by_form.ensures.images c.args.self.now c.simple_images-images.ensures.images
