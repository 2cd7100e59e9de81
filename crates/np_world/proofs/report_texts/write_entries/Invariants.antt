use Rattle.std.proofs.Common.{◌≡◌, ◌++◌, string_bytes, flat_map, take}
use Rattle.np_world.specs.ReportTexts.{entry_line}
use Rattle.np_world.proofs.report_texts.write_entries.Given as goal

abbrev pub invariant-loop-number : goal.invariant-loop-number
invariant-loop-number g l = string_bytes l.out ≡ string_bytes l.initial.out ++ flat_map entry_line (take l.number l.node.entries)
