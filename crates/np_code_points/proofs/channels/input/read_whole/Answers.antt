use Rattle.std.proofs.Common.{ap, arith}
use Rattle.np_code_points.proofs.Bytes.{on_err, taken_more}
use Rattle.np_code_points.proofs.channels.input.read_whole.Goals as goal

pub returns-in_err-read_more-clause-taken : goal.returns-in_err-read_more-clause-taken
returns-in_err-read_more-clause-taken g c =
    on_err c.from_residual.result _
    (taken_more _ _ _ _ c.loop-bytes.bytes.items 16777217 (ap g.R.Read.remaining c.clear.ensures.device) c.loop-bytes.invariant.taken c.in_err-read_more.ensures.taken)

pub returns-then-len-gt-LIMIT-clause-past : goal.returns-then-len-gt-LIMIT-clause-past
returns-then-len-gt-LIMIT-clause-past g c = λ _. (c.loop-bytes.bytes.items, omega arith, rw (← c.clear.ensures.device) c.loop-bytes.invariant.taken)
