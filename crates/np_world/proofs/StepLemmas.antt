-- One event of a history is one step of the machine.
use Rattle.std.proofs.Common.{◌≡◌, ℕ, zero, suc, ◌-◌, ◌<◌, List, [], ◌∷◌, length, set, map, slice_get, Some, refl, sym, ap, subst, ◌∙◌, arith}
use Rattle.std.proofs.lemmas.List.{length-map}
use Rattle.std.specs.Prelude.{slice_set}
use Rattle.np_chain.specs.Chain.{IsChain}
use Rattle.np_versions.specs.Versions.{VersionData}
use Rattle.np_schedules.specs.Events.{Event, node_of}
use Rattle.np_world.specs.Reports.{PlacedNode}
use Rattle.np_world.specs.Histories.{stage, IsDone}
use Rattle.np_world.specs.Moments.{Rules, AreRules, Moment}
use Rattle.np_world.specs.World.{MachineNode, World, IsStep}
use Rattle.np_world.specs.declared.replies.Reply.{Reply}
use Rattle.np_world.specs.inside.Mirrors.{Mirrors, setting_of}
use Rattle.np_world.specs.inside.Worlds.{AreMirrored, ShowsWorld}
use Rattle.np_world.proofs.CallLemmas.{TheLaws, call_steps}
use Rattle.np_world.proofs.NodeStepLemmas.{table_here}

-- ---- lists

some_at : {A : Type 0} (xs : List A) (k : ℕ) → k < length xs → (x : A) × (slice_get xs k ≡ Some x)
some_at [] k lt = absurd (omega arith)
some_at (x ∷ xs) zero lt = (x, refl)
some_at (x ∷ xs) (suc k) lt = some_at xs k (omega arith)

some_version : (vs : List VersionData) → IsChain vs → 0 < length vs
some_version [] chain = absurd chain
some_version (v ∷ vs) chain = omega arith

-- ---- nodes and the machine's nodes

module _ {T : Type 0} (model : T → VersionData) (rules : Rules T) where
  -- the machine's node at a place
  record HasTwin (placed : PlacedNode T) (nodes : List MachineNode) (k : ℕ) : Type 0 where
    twin : MachineNode
    here : slice_get nodes k ≡ Some twin
    mirrors : Mirrors model rules placed twin

  twin_at : (held : List (PlacedNode T)) (nodes : List MachineNode) (k : ℕ) (placed : PlacedNode T) → AreMirrored model rules held nodes → slice_get held k ≡ Some placed → HasTwin placed nodes k
  twin_at [] nodes k placed are here = absurd (cc)
  twin_at (m ∷ ms) [] k placed are here = absurd are
  twin_at (m ∷ ms) (n ∷ ns) zero placed are here =
      let same : m ≡ placed = cc in record { twin = n; here = refl; mirrors = subst (λ p. Mirrors model rules p n) same are.0 }
  twin_at (m ∷ ms) (n ∷ ns) (suc k) placed are here =
      let rest = twin_at ms ns k placed are.1 here in record { twin = rest.twin; here = rest.here; mirrors = rest.mirrors }

  mirrored-set : (held : List (PlacedNode T)) (nodes : List MachineNode) (k : ℕ) (placed : PlacedNode T) (twin : MachineNode) → AreMirrored model rules held nodes → Mirrors model rules placed twin
      → AreMirrored model rules (set held k placed) (slice_set nodes k twin)
  mirrored-set [] [] k placed twin are is = tt
  mirrored-set [] (n ∷ ns) k placed twin are is = absurd are
  mirrored-set (m ∷ ms) [] k placed twin are is = absurd are
  mirrored-set (m ∷ ms) (n ∷ ns) zero placed twin are is = (is, are.1)
  mirrored-set (m ∷ ms) (n ∷ ns) (suc k) placed twin are is = (are.0, mirrored-set ms ns k placed twin are.1 is)

  pub done_steps : TheLaws → (before after : Moment T) (event : Event) (reply : Reply) (world : World) → AreRules model rules → ShowsWorld model rules before world
      → IsDone model rules before event reply after → (next : World) × IsStep (setting_of model rules) world event reply next × ShowsWorld model rules after next
  done_steps laws before after event reply world are shows done =
      let k = node_of event in
      let at = twin_at before.nodes world.nodes k done.old shows.nodes done.named in
      let vs = map model rules.tables in
      let version = ap (slice_get vs) (sym at.mirrors.index) ∙ table_here model rules done.old at.twin at.mirrors in
      let some : length rules.tables - 1 < length vs = omega (arith, some_version vs are.chain.chain, length-map rules.tables model) in
      let last = some_at vs (length rules.tables - 1) some in
      let node_step = call_steps model rules laws event (stage done.old before.sent) (stage done.new after.sent) reply done.calls
      at.twin world.sent (model done.old.node.table) last.0 are at.mirrors shows.sent version last.1 in
      let next : World = record { nodes = slice_set world.nodes k node_step.next; sent = node_step.more } in (
        next,
        record {
          old = at.twin;
          new = node_step.next;
          version = model done.old.node.table;
          last = last.0;
          named = at.here;
          present = version;
          final = ap (λ n. slice_get vs (n - 1)) (length-map rules.tables model) ∙ last.1;
          does = node_step.does;
          nodes = refl;
        },
        record {
          nodes = subst (λ held. AreMirrored model rules held next.nodes) (sym done.nodes) (mirrored-set before.nodes world.nodes k done.new node_step.next shows.nodes node_step.mirrors);
          sent = node_step.messages;
        },
      )
