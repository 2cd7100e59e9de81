use Rattle.std.proofs.Common.{◌≡◌, length}
use Rattle.np_caseless.specs.inside.SimpleImages.{MayBecome}
use Rattle.np_caseless.proofs.simple_images.put_folding.Given as goal

abbrev pub invariant-loop-at : goal.invariant-loop-at
invariant-loop-at g l = (length l.list ≡ length l.fn.list) × MayBecome (g.T.NormTable.model l.table) l.images l.form l.fn.list l.list
