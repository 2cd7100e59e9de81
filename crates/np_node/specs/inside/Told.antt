-- What an entry of a message leaves.
use Rattle.std.specs.Prelude.{◌≡◌, Result, Ok, Err}
use Rattle.np_node.specs.Nodes.{NodeState, with_entry}
use Rattle.np_node.specs.Strings.{Entry}
use Rattle.np_node.specs.declared.faults.NodeFault.{NodeFault}
use Rattle.np_node.specs.declared.taking.Taken.{Taken}
use Rattle.np_node.specs.declared.taking.Taken.TheVariants.{Kept, Known}

-- `Kept` keeps the string and the key behind the others, every other answer changes nothing
abbrev pub LeavesEntry : {T : Type 0} → NodeState T → NodeState T → Entry → Result Taken NodeFault → Type 0
LeavesEntry old new e (Ok Kept) = new ≡ with_entry old e
LeavesEntry old new e (Ok Known) = new ≡ old
LeavesEntry old new e (Err fault) = new ≡ old
