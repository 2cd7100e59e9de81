use Rattle.std.proofs.Common.{length}
use Rattle.np_forms.specs.inside.Pieces.{form_bytes, left_of}
use Rattle.np_forms.proofs.PieceLemmas.{ArePassed}
use Rattle.np_forms.proofs.pieces.has_form.Given as goal

abbrev pub invariant-pieces : goal.invariant-pieces
invariant-pieces g l =
    let v = g.T.NormTable.model l.table in
    ArePassed (form_bytes v l.form l.text) l.bytes (left_of v l.form l.pieces) l.left

abbrev pub decreases-pieces : goal.decreases-pieces
decreases-pieces g l = length l.left
