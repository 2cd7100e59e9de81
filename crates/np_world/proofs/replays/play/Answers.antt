use Rattle.std.proofs.Common.{map, ap, arith}
use Rattle.std.proofs.lemmas.List.{length-map, with_items_is}
use Rattle.np_schedules.specs.EventLines.{event_of}
use Rattle.np_world.specs.inside.Views.{placed_of, report_of, rules_of}
use Rattle.np_world.proofs.PlayLemmas.{length-new, length-played, replayed}
use Rattle.np_world.proofs.replays.play.Goals as goal

pub returns : goal.returns
returns g c =
    let model = g.T.NormTable.model in
    let common = c.args.common.now in
    let v = c.in_ok-replay_nodes.replay_nodes in
    let ws = c.run_events.new.replay_nodes in
    let starts = c.starts-starts.result.now in
    let told = c.in_ok-replies.field-0 in
    let begun = length-new model (rules_of common) starts (map placed_of v.items) c.in_ok-replay_nodes.ensures in
    let many = length-map v.items placed_of in
    let ended = length-played model (rules_of common) starts (map event_of c.events.result.now) told.replies.items ws told.sent.items c.in_ok-replies.ensures in
    replayed model common.chain.now common.form c.args.schedule.now _ common.room starts (map event_of c.events.result.now) told.replies.items told.sent.items ws
    c.requires.room c.starts-starts.ensures c.events.ensures
    (ap (report_of told.replies.items told.sent.items) (with_items_is v ws (omega (arith, begun, many, ended)))) c.in_ok-replies.ensures
