use Rattle.std.proofs.Common.{eqb, arith}
use Rattle.std.proofs.lemmas.Simd.{bitmask_splat, length-chunk}
use lib.Lanes.{chunk}
use mir.Syntax.{w8}
use Rattle.np_code_points.proofs.CountLemmas.{ones_dropped}
use Rattle.np_code_points.proofs.lines.counted_in_step.Goals as goal

pub returns : goal.returns
returns c =
    let xs = chunk c.args.from 16 c.args.bytes.now in
    let long = length-chunk c.args.from 16 c.args.bytes.now c.requires.room in
    ones_dropped c.args.byte c.args.skipped _ xs (bitmask_splat w8 eqb xs 16 c.args.byte long (omega arith))
