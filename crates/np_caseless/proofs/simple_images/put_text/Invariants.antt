use Rattle.std.proofs.Common.{◌≡◌, length}
use Rattle.np_caseless.specs.inside.SimpleImages.{MayBecome}
use Rattle.np_caseless.proofs.simple_images.put_text.Given as goal

abbrev pub invariant-loop-code : goal.invariant-loop-code
invariant-loop-code g l = (length l.list ≡ length l.fn.list) × MayBecome (g.T.NormTable.model l.table) l.images l.form l.fn.list l.list
