use Rattle.std.proofs.Common.{◌≡◌, ◌<◌, ℕ, List, Some, length, get_or, map, slice_get, option_map, option_and_then, refl, sym, ap, ◌∙◌}
use Rattle.std.proofs.lemmas.Option.{slice_get-map, slice_get_read}
use Rattle.np_world.specs.declared.replay_nodes.ReplayNode.{ReplayNode}
use Rattle.np_world.specs.inside.Views.{bytes_in, placed_of}
use Rattle.np_world.proofs.report.Report.saved.Goals as goal

at_place : {T : Type 0} (replay_nodes : List (ReplayNode T)) (k : ℕ) (m : ReplayNode T) → k < length replay_nodes → m ≡ get_or replay_nodes k m
    → option_and_then (λ n. n.image) (slice_get (map placed_of replay_nodes) k) ≡ option_map bytes_in m.image
at_place replay_nodes k m within is = rw (slice_get-map placed_of replay_nodes k, slice_get_read replay_nodes (length replay_nodes) k m refl within is) refl

pub returns-in-Some : goal.returns-in-Some
returns-in-Some g c =
    let found = c.in_ok-image.ensures.lookup in
    let at = at_place c.deref.result.now c.args.number c.in_ok-image.field-0.now found.3.0 found.1 in
    rw (← c.self.view_is, ← c.deref.ensures.value) (ap Some c.as_slice.ensures.value ∙ sym (at ∙ ap (option_map bytes_in) c.in-Some.is))

pub returns-in-None : goal.returns-in-None
returns-in-None g c =
    let found = c.in_ok-image.ensures.lookup in
    let at = at_place c.deref.result.now c.args.number c.in_ok-image.field-0.now found.3.0 found.1 in
    rw (← c.self.view_is, ← c.deref.ensures.value) (sym (at ∙ ap (option_map bytes_in) c.in-None.is))
