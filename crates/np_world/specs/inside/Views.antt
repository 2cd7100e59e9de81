-- Nodes, messages and reports of the code as contracts see them.
use Rattle.std.specs.Prelude.{ℕ, List, map}
use Rattle.std.specs.Option.{option_map}
use Rattle.std.specs.declared.vec.Vec.{Vec}
use Rattle.std.specs.declared.alloc.Global.{Global}
use Rattle.np_world.specs.Calls.{Stage}
use Rattle.np_world.specs.Moments.{Rules, Moment}
use Rattle.np_world.specs.Reports.{ReportData, PlacedNode}
use Rattle.np_world.specs.declared.replay_nodes.Common.{Common}
use Rattle.np_world.specs.declared.replay_nodes.ReplayNode.{ReplayNode}
use Rattle.np_world.specs.declared.replies.Reply.{Reply}

abbrev pub rules_of : {T : Type 0} → Common T → Rules T
rules_of common = record { tables = common.chain.now; form = common.form; room = common.room }

abbrev pub bytes_in : Vec ℕ Global → List ℕ
bytes_in bytes = bytes.items

abbrev pub placed_of : {T : Type 0} → ReplayNode T → PlacedNode T
placed_of replay_node = record { index = replay_node.index; node = replay_node.node; image = option_map bytes_in replay_node.image }

abbrev pub bytes_of : List (Vec ℕ Global) → List (List ℕ)
bytes_of sent = map bytes_in sent

-- a node before or after a call, and what was sent
abbrev pub stage_of : {T : Type 0} → ReplayNode T → List (List ℕ) → Stage T
stage_of replay_node sent = record { placed = placed_of replay_node; sent = sent }

abbrev pub moment_of : {T : Type 0} → List (ReplayNode T) → List (Vec ℕ Global) → Moment T
moment_of replay_nodes sent = record { nodes = map placed_of replay_nodes; sent = bytes_of sent }

abbrev pub report_of : {T : Type 0} → List Reply → List (Vec ℕ Global) → List (ReplayNode T) → ReportData T
report_of replies sent replay_nodes = record { replies = replies; sent = bytes_of sent; nodes = map placed_of replay_nodes }
