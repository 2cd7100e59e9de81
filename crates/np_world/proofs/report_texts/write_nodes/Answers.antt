use Rattle.std.proofs.Common.{map, refl, string_bytes}
use Rattle.std.proofs.lemmas.Option.{slice_get_read}
use Rattle.np_world.specs.Reports.{node_report}
use Rattle.np_world.specs.ReportTexts.{node_lines}
use Rattle.np_world.specs.inside.Views.{placed_of}
use Rattle.np_world.proofs.ReportTextLemmas.{mapped_there, numbered_written_more}
use Rattle.np_world.proofs.report_texts.write_nodes.Goals as goal

pub loop-number-preserved : goal.loop-number-preserved
loop-number-preserved g c =
    let replay_node = c.index-replay_nodes-number.result in
    let ends = mapped_there placed_of c.args.replay_nodes.now c.loop-number.number replay_node (slice_get_read _ _ _ replay_node refl c.loop-number-test.true c.index-replay_nodes-number.is) in
    let here = mapped_there node_report (map placed_of c.args.replay_nodes.now) c.loop-number.number (placed_of replay_node) ends in
    numbered_written_more (string_bytes c.args.out.now) node_lines (map node_report (map placed_of c.args.replay_nodes.now)) c.loop-number.number (node_report (placed_of replay_node)) here c.loop-number.invariant c.in_ok-write_node.ensures
