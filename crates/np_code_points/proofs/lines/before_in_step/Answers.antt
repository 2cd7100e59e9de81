use Rattle.std.proofs.Common.{eqb}
use Rattle.std.proofs.lemmas.Simd.{bitmask_splat, length-chunk}
use lib.Lanes.{chunk}
use mir.Syntax.{w8}
use Rattle.np_code_points.proofs.PlaceLemmas.{no_bit, lowest_bit}
use Rattle.np_code_points.proofs.lines.before_in_step.Goals as goal

pub returns-then-found-eq0 : goal.returns-then-found-eq0
returns-then-found-eq0 g c =
    let long = length-chunk c.args.from g.row.N c.args.bytes.now c.requires.room in
    no_bit g.row.N c.args.byte (chunk c.args.from g.row.N c.args.bytes.now) _ long (bitmask_splat w8 eqb (chunk c.args.from g.row.N c.args.bytes.now) g.row.N c.args.byte long c.requires.narrow) c.if-found-eq0.true

pub returns-else-found-eq0 : goal.returns-else-found-eq0
returns-else-found-eq0 g c =
    let long = length-chunk c.args.from g.row.N c.args.bytes.now c.requires.room in
    lowest_bit g.row.N c.args.byte (chunk c.args.from g.row.N c.args.bytes.now) _ long c.requires.narrow (bitmask_splat w8 eqb (chunk c.args.from g.row.N c.args.bytes.now) g.row.N c.args.byte long c.requires.narrow) c.if-found-eq0.false
