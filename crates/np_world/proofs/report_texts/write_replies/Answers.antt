use Rattle.std.proofs.Common.{string_bytes}
use Rattle.std.proofs.lemmas.Option.{slice_get-get_or}
use Rattle.np_world.specs.ReportTexts.{reply_line}
use Rattle.np_world.proofs.ReportTextLemmas.{numbered_written_more}
use Rattle.np_world.proofs.report_texts.write_replies.Goals as goal

pub loop-event-preserved : goal.loop-event-preserved
loop-event-preserved c =
    numbered_written_more (string_bytes c.args.out.now) reply_line c.args.replies.now c.loop-event.event _
    (slice_get-get_or c.args.replies.now c.loop-event.event _ c.loop-event-test.true) c.loop-event.invariant c.in_ok-write_reply_line.ensures
