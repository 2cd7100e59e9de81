use Rattle.std.proofs.Common.{refl}
use Rattle.std.proofs.lemmas.Option.{slice_get-map, slice_get_past, slice_get_read}
use Rattle.np_world.specs.inside.Views.{placed_of}
use Rattle.np_world.proofs.report.Report.node.Goals as goal

pub returns-in-Some : goal.returns-in-Some
returns-in-Some g c =
    let found = c.in-Some.ensures.lookup in
    let list = c.deref.result.now in
    let k = c.args.number in
    rw (← c.self.view_is, ← c.deref.ensures.value)
    (rw (slice_get-map placed_of list k, slice_get_read list _ k c.in-Some.replay_node.now refl found.3.0 found.1) refl)

pub returns-in-None : goal.returns-in-None
returns-in-None g c =
    rw (← c.self.view_is, ← c.deref.ensures.value)
    (rw (slice_get-map placed_of c.deref.result.now c.args.number, slice_get_past c.deref.result.now c.args.number c.in-None.ensures.lookup.3) refl)
