use Rattle.std.proofs.Common.{◌++◌, length, take, Some}
use Rattle.np_node.specs.Images.{head_bytes, entries_bytes}
use Rattle.np_node.specs.inside.Writing.{IsWritten}
use Rattle.np_node.proofs.images.put_image_of.Given as goal

abbrev pub invariant-loop-index : goal.invariant-loop-index
invariant-loop-index l =
    IsWritten l.fn.room l.room 0 l.at (head_bytes (Some l.fn.needs) l.fn.form (length l.entries) ++ entries_bytes (Some l.fn.needs) (take l.index l.entries))
