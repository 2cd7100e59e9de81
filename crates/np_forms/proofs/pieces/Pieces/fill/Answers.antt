use Rattle.std.proofs.Common.{length, sym, ◌∙◌}
use Rattle.std.proofs.lemmas.Bool.{eqb-true}
use Rattle.np_forms.proofs.PieceLemmas.{left_nil}
use Rattle.np_forms.proofs.pieces.Pieces.fill.Goals as goal

pub returns-else-not-is_empty-clause-front : goal.returns-else-not-is_empty-clause-front
returns-else-not-is_empty-clause-front g c e =
    left_nil (g.T.NormTable.model c.args.table.now) c.args.form _ _ c.pieces.self.rest.now e (eqb-true (length c.pieces.self.rest.now) 0 (sym c.is_empty-in-pieces.ensures ∙ c.if-not-is_empty.false))
