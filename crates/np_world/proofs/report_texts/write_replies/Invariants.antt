use Rattle.std.proofs.Common.{◌≡◌, ◌++◌, string_bytes, take}
use Rattle.np_world.specs.ReportTexts.{reply_line}
use Rattle.np_world.specs.inside.ReportWriting.{numbered_lines}
use Rattle.np_world.proofs.report_texts.write_replies.Given as goal

abbrev pub invariant-loop-event : goal.invariant-loop-event
invariant-loop-event l = string_bytes l.out ≡ string_bytes l.initial.out ++ numbered_lines reply_line (take l.event l.replies)
