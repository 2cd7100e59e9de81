use Rattle.std.proofs.Common.{◌≡◌, length}
use Rattle.np_forms.specs.inside.Pieces.{left_of}
use Rattle.np_forms.proofs.pieces.Pieces.fill.Given as goal

abbrev pub invariant-pieces : goal.invariant-pieces
invariant-pieces g l = left_of (g.T.NormTable.model l.table) l.form l.self ≡ left_of (g.T.NormTable.model l.table) l.form l.initial.self

abbrev pub decreases-pieces : goal.decreases-pieces
decreases-pieces g l = length l.self.rest.now
