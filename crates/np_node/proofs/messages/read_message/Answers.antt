use Rattle.std.proofs.Common.{arith}
use Rattle.np_node.proofs.ReadingLemmas.{message-more, message-read}
use Rattle.np_node.proofs.messages.read_message.Goals as goal

pub returns-then-left-gt0-clause-err : goal.returns-then-left-gt0-clause-err
returns-then-left-gt0-clause-err c =
    let told = c.in_ok-told.ensures.ok in
    message-more _ _ _ c.args.bytes.now c.in-Some.form _ c.place.result c.new-fields.ensures.0 c.new-fields.ensures.1 c.in-Some.ensures.some told.0 told.1
    (omega (arith, c.left.ensures, c.if-left-gt0.true)) c.place.ensures

pub returns-clause-ok : goal.returns-clause-ok
returns-clause-ok c =
    let told = c.in_ok-told.ensures.ok in
    message-read _ _ _ c.args.bytes.now c.in-Some.form _ c.new-fields.ensures.0 c.new-fields.ensures.1 c.in-Some.ensures.some told.0 told.1
    (omega (arith, c.left.ensures, c.if-left-gt0.false))
