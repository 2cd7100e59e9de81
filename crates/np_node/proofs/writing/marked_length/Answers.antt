use Rattle.std.proofs.Common.{arith}
use Rattle.std.proofs.lemmas.Bool.{both_ways}
use Rattle.np_node.proofs.WritingLemmas.{length-same-key, length-other-key}
use Rattle.np_node.proofs.writing.marked_length.Goals as goal

pub returns-then-same_bytes : goal.returns-then-same_bytes
returns-then-same_bytes c = omega (arith, length-same-key (record { string = c.args.string.now; key = c.args.key.now }) (c.same_bytes.ensures.0 c.if-same_bytes.true))

pub returns-else-same_bytes : goal.returns-else-same_bytes
returns-else-same_bytes c =
    omega (arith, length-other-key (record { string = c.args.string.now; key = c.args.key.now }) (λ same. both_ways c.same_bytes.result c.if-same_bytes.false (c.same_bytes.ensures.1 same)))
