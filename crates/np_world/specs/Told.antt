-- The reply that says what a call answered.
use Rattle.std.specs.Prelude.{Bool, true, false, Option, Some, None, Result, Ok, Err}
use Rattle.np_code_points.specs.declared.Memory.{Memory}
use Rattle.np_node.specs.declared.faults.NodeFault.{NodeFault}
use Rattle.np_node.specs.declared.faults.NodeFault.TheVariants as fault
use Rattle.np_node.specs.declared.taking.Taken.{Taken}
use Rattle.np_node.specs.declared.taking.Taken.TheVariants as taken
use Rattle.np_world.specs.declared.replies.Reply.{Reply}
use Rattle.np_world.specs.declared.replies.Reply.TheVariants.{Known, Forgotten, NotKept, Equal, Different, Malformed, OtherForm, TooLong, NotUtf8, Unassigned, KeyDiffers, OlderTables, Full}

-- each refusal is a reply, but want of memory
abbrev pub refusal_of : NodeFault → Result Reply Memory
refusal_of (fault.Malformed at) = Ok (Malformed at)
refusal_of fault.OtherForm = Ok OtherForm
refusal_of fault.TooLong = Ok TooLong
refusal_of (fault.NotUtf8 at) = Ok (NotUtf8 at)
refusal_of (fault.Unassigned at code) = Ok (Unassigned at code)
refusal_of fault.KeyDiffers = Ok KeyDiffers
refusal_of (fault.OlderTables need have) = Ok (OlderTables need have)
refusal_of fault.Full = Ok Full
refusal_of fault.Memory = Err (record {})

-- a string came to a node: the reply is this one where it was new and is kept now
abbrev pub reply_to : Reply → Result Taken NodeFault → Result Reply Memory
reply_to told (Ok taken.Kept) = Ok told
reply_to told (Ok taken.Known) = Ok Known
reply_to told (Err refused) = refusal_of refused

-- whether a string was kept, and is forgotten now
abbrev pub forgetting_reply : Bool → Reply
forgetting_reply true = Forgotten
forgetting_reply false = NotKept

-- whether two strings are equivalent, where both are kept
abbrev pub comparing_reply : Option Bool → Reply
comparing_reply None = NotKept
comparing_reply (Some true) = Equal
comparing_reply (Some false) = Different
