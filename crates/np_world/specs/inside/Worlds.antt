-- How nodes and messages mirror the machine's world.
use Rattle.std.specs.Prelude.{◌≡◌, ◌↔◌, ◌⊎◌, ℕ, List, [], ◌∷◌, Option, None, slice_get, Contains, IsSome}
use Rattle.std.specs.Option.{option_and_then}
use Rattle.np_versions.specs.Versions.{VersionData}
use Rattle.np_schedules.specs.Events.{Event, Save}
use Rattle.np_world.specs.Reports.{PlacedNode}
use Rattle.np_world.specs.Moments.{Rules, AreRules, Moment}
use Rattle.np_world.specs.World.{MachineNode, World, IsRun, start}
use Rattle.np_world.specs.declared.replies.Reply.{Reply}
use Rattle.np_world.specs.inside.Mirrors.{Mirrors, AreMessages, setting_of}

abbrev pub AreMirrored : {T : Type 0} → (T → VersionData) → Rules T → List (PlacedNode T) → List MachineNode → Type 0
AreMirrored model rules [] [] = Unit {0}
AreMirrored model rules (placed ∷ more) (node ∷ nodes) = Mirrors model rules placed node × AreMirrored model rules more nodes
AreMirrored model rules [] (node ∷ nodes) = ⊥
AreMirrored model rules (placed ∷ more) [] = ⊥

-- the nodes and the messages are those of the machine's world
pub record ShowsWorld {T : Type 0} (model : T → VersionData) (rules : Rules T) (moment : Moment T) (world : World) : Type 0 where
  pub nodes : AreMirrored model rules moment.nodes world.nodes
  pub sent : AreMessages (setting_of model rules) moment.sent world.sent

-- a node at the start
abbrev pub first_node : ℕ → MachineNode
first_node index = record { index = index; strings = []; saved = []; saved_at = None }

-- the last image of the node of a number
abbrev pub image_of : {T : Type 0} → List (PlacedNode T) → ℕ → Option (List ℕ)
image_of nodes k = option_and_then (λ n. n.image) (slice_get nodes k)

-- an event saves the node that it names, and leaves the image of each other one
abbrev pub LeavesImages : {T : Type 0} → Event → List (PlacedNode T) → List (PlacedNode T) → Type 0
LeavesImages event old new = (k : ℕ) → IsSome (image_of new k) ↔ (IsSome (image_of old k) ⊎ (event ≡ Save k))

-- the machine's run over events ends in a world that is shown, and there is an image of a node exactly where an event saved it
pub record EndsRun {T : Type 0} (model : T → VersionData) (rules : Rules T) (places : List ℕ) (events : List Event)
    (replies : List Reply) (last : Moment T) : Type 0 where
  pub rules_hold : AreRules model rules
  pub world : World
  pub run : IsRun (setting_of model rules) (start places) events replies world
  pub shows : ShowsWorld model rules last world
  pub images : (k : ℕ) → IsSome (image_of last.nodes k) ↔ Contains events (Save k)
