-- What contracts see of a report.
use Rattle.std.specs.Prelude.{ℕ, List, map, slice_get, Option}
use Rattle.std.specs.Option.{option_map, option_and_then}
use Rattle.np_node.specs.Nodes.{NodeState}
use Rattle.np_node.specs.Strings.{Entry}
use Rattle.np_world.specs.declared.replies.Reply.{Reply}

-- a node with the place of its version in the chain, and the bytes of its last image, if it has one
pub record PlacedNode (T : Type 0) : Type 0 where
  pub index : ℕ
  pub node : NodeState T
  pub image : Option (List ℕ)

-- the replies in the order of the events, and the messages and the nodes at the end in the order of their numbers
pub record ReportData (T : Type 0) : Type 0 where
  pub replies : List Reply
  pub sent : List (List ℕ)
  pub nodes : List (PlacedNode T)

abbrev pub replies_of : {T : Type 0} → ReportData T → List Reply
replies_of report = report.replies

-- of the node of a number: itself, the place of its version in the chain, its last image
abbrev pub node_at : {T : Type 0} → ReportData T → ℕ → Option (NodeState T)
node_at report k = option_map (λ n. n.node) (slice_get report.nodes k)

abbrev pub index_at : {T : Type 0} → ReportData T → ℕ → Option ℕ
index_at report k = option_map (λ n. n.index) (slice_get report.nodes k)

abbrev pub image_at : {T : Type 0} → ReportData T → ℕ → Option (List ℕ)
image_at report k = option_and_then (λ n. n.image) (slice_get report.nodes k)

-- the message of a number
abbrev pub message_at : {T : Type 0} → ReportData T → ℕ → Option (List ℕ)
message_at report k = slice_get report.sent k

-- a node in short: the place of its version in the chain, and what it keeps
pub record NodeReport : Type 0 where
  pub index : ℕ
  pub entries : List Entry

abbrev pub node_report : {T : Type 0} → PlacedNode T → NodeReport
node_report end = record { index = end.index; entries = end.node.entries }

-- the nodes in the order of their numbers
abbrev pub nodes_of : {T : Type 0} → ReportData T → List NodeReport
nodes_of report = map node_report report.nodes
