-- The events of a schedule. Nodes, messages and versions are named by their numbers, from 0; a string is the list of its code
-- points.
use Rattle.std.specs.Prelude.{ℕ, List}

pub data Event : Type 0 where
  Accept : (node : ℕ) (string : List ℕ) → Event
  Deliver : (node message : ℕ) → Event
  Upgrade : (node : ℕ) → Event
  Save : (node : ℕ) → Event
  Restart : (node : ℕ) → Event
  Ask : (node : ℕ) (left right : List ℕ) → Event
  Forge : (node : ℕ) (bytes : List ℕ) → Event
  Forget : (node : ℕ) (string : List ℕ) → Event
  RestartUnder : (node version : ℕ) → Event

-- the node that an event names
abbrev pub node_of : Event → ℕ
node_of (Accept node string) = node
node_of (Deliver node message) = node
node_of (Upgrade node) = node
node_of (Save node) = node
node_of (Restart node) = node
node_of (Ask node left right) = node
node_of (Forge node bytes) = node
node_of (Forget node string) = node
node_of (RestartUnder node version) = node

-- the number of versions, the room of each node, the place of each node's first version, and the events
pub record ScheduleData : Type 0 where
  pub versions : ℕ
  pub room : ℕ
  pub starts : List ℕ
  pub events : List Event
