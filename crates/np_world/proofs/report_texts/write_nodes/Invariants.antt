use Rattle.std.proofs.Common.{◌≡◌, ◌++◌, string_bytes, map, take}
use Rattle.np_world.specs.Reports.{node_report}
use Rattle.np_world.specs.ReportTexts.{node_lines}
use Rattle.np_world.specs.inside.Views.{placed_of}
use Rattle.np_world.specs.inside.ReportWriting.{numbered_lines}
use Rattle.np_world.proofs.report_texts.write_nodes.Given as goal

abbrev pub invariant-loop-number : goal.invariant-loop-number
invariant-loop-number g l = string_bytes l.out ≡ string_bytes l.initial.out ++ numbered_lines node_lines (take l.number (map node_report (map placed_of l.replay_nodes)))
