use Rattle.std.proofs.Common.{sym, ap, ◌∙◌, string_bytes}
use Rattle.np_world.specs.ReportTexts.{entry_line}
use Rattle.np_world.proofs.ReportTextLemmas.{nothing_there, written_more}
use Rattle.np_world.proofs.report_texts.write_entries.Goals as goal
use Rattle.np_world.proofs.report_texts.write_entries.Goals.{in-Some+in_ok-write_entry, in_default}

pub loop-number-preserved : goal.loop-number-preserved
loop-number-preserved g c = elim c.match-entry.branch [
  | in-Some+in_ok-write_entry w ↦
      ap string_bytes w.out-is
      ∙ written_more (string_bytes c.args.out.now) entry_line c.args.node.now.entries c.loop-number.number _ (sym w.in-Some.ensures) c.loop-number.invariant w.in_ok-write_entry.ensures
  | in_default w ↦ absurd (nothing_there c.args.node.now.entries c.loop-number.number c.len-number-end.result c.len-number-end.ensures.count c.loop-number-test.true (sym w.in_default.ensures))
]
