use Rattle.std.proofs.Common.{rules}
use Rattle.np_code_points.proofs.Bytes.{appended_more}
use Rattle.np_code_points.proofs.channels.output.write_whole.Goals as goal

pub loop-at-preserved : goal.loop-at-preserved
loop-at-preserved g c =
    let before = c.loop-at.invariant in
    let written = c.in-Ok.ensures in
    (search rules, search rules, appended_more _ _ _ c.args.bytes.now c.loop-at.at c.in-Ok.n before.2 written.bytes)
