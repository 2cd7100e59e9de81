use Rattle.np_versions.proofs.Words.{length-chunk}
use Rattle.np_versions.proofs.AsciiLemmas.{first_other, no_others, others_mask}
use Rattle.np_versions.proofs.ascii_runs.ascii_in_lanes.Goals as goal

pub returns-then-others-eq0 : goal.returns-then-others-eq0
returns-then-others-eq0 c =
    let long = length-chunk c.args.from 16 c.args.bytes.now c.requires in no_others _ _ long (others_mask _ long) c.if-others-eq0.true

pub returns-else-others-eq0 : goal.returns-else-others-eq0
returns-else-others-eq0 c =
    let long = length-chunk c.args.from 16 c.args.bytes.now c.requires in first_other _ _ long (others_mask _ long) c.if-others-eq0.false
