-- The machine's replies and worlds are determined.
use Rattle.std.proofs.Common.{◌≡◌, ℕ, List, [], ◌∷◌, slice_get, slice_set, Some, sym, ap, subst, ◌∙◌}
use Rattle.np_code_points.specs.Forms.{is_compat}
use Rattle.np_forms.specs.Forms.{IsEquivalent}
use Rattle.np_node.specs.Laws.{HasOneFault, SpellsOne}
use Rattle.np_node.specs.Messages.{IsMessage, IsMessageFault}
use Rattle.np_versions.specs.Versions.{VersionData}
use Rattle.np_schedules.specs.Events.{Event, Accept, Deliver, Upgrade, Save, Restart, Ask, Forge, Forget, RestartUnder, node_of}
use Rattle.np_world.specs.Laws.{OneRun}
use Rattle.np_world.specs.World.{Setting, MachineNode, World, Scene, Accepts, Delivers, Upgrades, Asks, Does, IsStep, IsRun}
use Rattle.np_world.specs.declared.replies.Reply.{Reply}
use Rattle.np_world.proofs.CaseLemmas.{both, one_coming, one_if, one_match, same_as, Same}
use Rattle.np_world.proofs.ForgeLemmas.{forges_once}
use Rattle.np_world.proofs.ForgettingLemmas.{one_forgetting}
use Rattle.np_world.proofs.RestartLemmas.{one_restart}

-- ---- one event

module _ (setting : Setting) (v : VersionData) (before : Scene) (reply other : Reply) (after next : Scene) where
  one_accept : (s : List ℕ) → Accepts setting v s before reply after → Accepts setting v s before other next → Same reply other after next
  one_accept s one two =
      one_if _ _ _ _ _ (Same reply other after next) (same_as reply other _ after next before) (one_coming setting v before reply other after next s _ _) one two

  one_delivery : (message : ℕ) → Delivers setting v message before reply after → Delivers setting v message before other next → Same reply other after next
  one_delivery message one two =
      one_match (slice_get before.sent message) _ _ (Same reply other after next) _ _ (same_as reply other _ after next before)
      (λ s. one_coming setting v before reply other after next s _ _) one two

  one_upgrade : Upgrades setting before reply after → Upgrades setting before other next → Same reply other after next
  one_upgrade one two = one_if _ _ _ _ _ (Same reply other after next) (same_as reply other _ after next _) (same_as reply other _ after next before) one two

  one_asking : (last : VersionData) (left right : List ℕ) → Asks setting last left right before reply after → Asks setting last left right before other next → Same reply other after next
  one_asking last left right one two =
      one_if _ _ _ _ _ (Same reply other after next)
      (one_if (IsEquivalent last (is_compat setting.form) left right) _ _ _ _ (Same reply other after next) (same_as reply other _ after next before) (same_as reply other _ after next before))
      (same_as reply other _ after next before) one two

  one_deed : SpellsOne IsMessage → HasOneFault IsMessage IsMessageFault → (last : VersionData) (event : Event) → Does setting v last event before reply after → Does setting v last event before other next → Same reply other after next
  one_deed message fault last (Accept node s) one two = one_accept s one two
  one_deed message fault last (Deliver node number) one two = one_delivery number one two
  one_deed message fault last (Upgrade node) one two = one_upgrade one two
  one_deed message fault last (Save node) one two = same_as reply other _ after next _ one two
  one_deed message fault last (Restart node) one two = same_as reply other _ after next _ one two
  one_deed message fault last (Ask node left right) one two = one_asking last left right one two
  one_deed message fault last (Forge node bytes) one two = forges_once setting v before reply other after next message fault bytes one two
  one_deed message fault last (Forget node s) one two = one_forgetting before reply other after next s one two
  one_deed message fault last (RestartUnder node place) one two = one_restart setting before reply other after next place one two

-- ---- steps and runs

abbrev scene_of : MachineNode → List (List ℕ) → Scene
scene_of node sent = record { node = node; sent = sent }

abbrev world_of : List MachineNode → List (List ℕ) → World
world_of nodes sent = record { nodes = nodes; sent = sent }

one_step : SpellsOne IsMessage → HasOneFault IsMessage IsMessageFault → (setting : Setting) (before : World) (event : Event) (reply other : Reply) (after next : World)
    → IsStep setting before event reply after → IsStep setting before event other next → (reply ≡ other) × (after ≡ next)
one_step message fault setting before event reply other after next one two =
    let found : Some one.old ≡ Some two.old = sym one.named ∙ two.named in
    let old : one.old ≡ two.old = cc in
    let there : Some one.version ≡ Some two.version = sym one.present ∙ ap (λ (n : MachineNode). slice_get setting.versions n.index) old ∙ two.present in
    let version : one.version ≡ two.version = cc in
    let end : Some one.last ≡ Some two.last = sym one.final ∙ two.final in
    let last : one.last ≡ two.last = cc in
    let does = subst (λ n. Does setting two.version two.last event (scene_of n before.sent) reply (scene_of one.new after.sent)) old
    (subst (λ v. Does setting v two.last event (scene_of one.old before.sent) reply (scene_of one.new after.sent)) version
    (subst (λ l. Does setting one.version l event (scene_of one.old before.sent) reply (scene_of one.new after.sent)) last one.does)) in
    let same = one_deed setting two.version (scene_of two.old before.sent) reply other (scene_of one.new after.sent) (scene_of two.new next.sent) message fault two.last event does two.does in
    let nodes : after.nodes ≡ next.nodes = one.nodes ∙ ap (λ (s : Scene). slice_set before.nodes (node_of event) s.node) same.1 ∙ sym two.nodes in
    let sent : after.sent ≡ next.sent = ap (λ (s : Scene). s.sent) same.1 in
    (same.0, ap (λ l. world_of l after.sent) nodes ∙ ap (world_of next.nodes) sent)

pub one_run : SpellsOne IsMessage → HasOneFault IsMessage IsMessageFault → OneRun
one_run message fault setting before [] replies others after other run second = (both replies others [] run.0 second.0, both after other before run.1 second.1)
one_run message fault setting before (event ∷ events) replies others after other run second =
    let step = one_step message fault setting before event run.0 second.0 run.2 second.2 run.4 second.4 in
    let there = subst (λ w. IsRun setting w events second.1 other) (sym step.1) second.5 in
    let rest = one_run message fault setting run.2 events run.1 second.1 after other run.5 there in
    (run.3 ∙ ap (λ r. r ∷ run.1) step.0 ∙ ap (λ l. second.0 ∷ l) rest.0 ∙ sym second.3, rest.1)
