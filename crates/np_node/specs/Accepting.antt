-- What `accept` answers, when, and what it leaves.
use Rattle.std.specs.Prelude.{◌≡◌, ℕ, List, Result, Ok, Err}
use Rattle.np_node.specs.Messages.{message_bytes}
use Rattle.np_node.specs.Nodes.{NodeState, State, IsKept, HasPlace, HasNoPlace, with_entry}
use Rattle.np_node.specs.Strings.{IsKeepable, IsKey, IsStringFault}
use Rattle.np_node.specs.declared.accepting.Accepted.{Accepted}
use Rattle.np_node.specs.declared.accepting.Accepted.TheVariants.{Kept, Known}
use Rattle.np_node.specs.declared.taking.Taken.{Taken}
use Rattle.np_node.specs.declared.taking.Taken.TheVariants as taken
use Rattle.np_node.specs.declared.faults.NodeFault.{NodeFault}
use Rattle.np_node.specs.declared.faults.NodeFault.TheVariants.{Malformed, OtherForm, TooLong, NotUtf8, Unassigned, KeyDiffers, Full, Memory, OlderTables}
use Rattle.np_versions.specs.Versions.{VersionData}

-- each answer's cause, with those of the answers before it absent: too long, not UTF-8, unassigned, known, full, kept. Want
-- of memory stands in the place of `Kept` alone.
abbrev pub AnswersAccept : State → List ℕ → Result Accepted NodeFault → Type 0
AnswersAccept node string (Ok (Kept message)) = HasPlace node string
AnswersAccept node string (Ok Known) = IsKeepable node.version string × IsKept node.entries string
AnswersAccept node string (Err TooLong) = IsStringFault node.version string TooLong
AnswersAccept node string (Err (NotUtf8 at)) = IsStringFault node.version string (NotUtf8 at)
AnswersAccept node string (Err (Unassigned at code)) = IsStringFault node.version string (Unassigned at code)
AnswersAccept node string (Err Full) = HasNoPlace node string
AnswersAccept node string (Err Memory) = HasPlace node string
AnswersAccept node string (Err (Malformed at)) = ⊥
AnswersAccept node string (Err OtherForm) = ⊥
AnswersAccept node string (Err KeyDiffers) = ⊥
AnswersAccept node string (Err (OlderTables need have)) = ⊥

-- the string is kept behind the others, beside its key, and the message spells both
pub record KeepsAndTells {T : Type 0} (model : T → VersionData) (old new : NodeState T) (string message : List ℕ) : Type 0 where
  pub key : List ℕ
  pub is_key : IsKey (model old.table) old.form string key
  pub kept : new ≡ with_entry old (record { string = string; key = key })
  pub spelling : message ≡ message_bytes (record { form = old.form; entry = record { string = string; key = key } })

-- `Kept` keeps the string and tells it, every other answer changes nothing
abbrev pub LeavesAccepted : {T : Type 0} → (T → VersionData) → NodeState T → NodeState T → List ℕ → Result Accepted NodeFault → Type 0
LeavesAccepted model old new string (Ok (Kept message)) = KeepsAndTells model old new string message.items
LeavesAccepted model old new string (Ok Known) = new ≡ old
LeavesAccepted model old new string (Err fault) = new ≡ old

-- `keep_string`: each answer's cause is that of `accept`
abbrev pub AnswersKeep : State → List ℕ → Result Taken NodeFault → Type 0
AnswersKeep node string (Ok taken.Kept) = HasPlace node string
AnswersKeep node string (Ok taken.Known) = AnswersAccept node string (Ok Known)
AnswersKeep node string (Err fault) = AnswersAccept node string (Err fault)

-- the string is kept behind the others, beside its key
pub record KeepsString {T : Type 0} (model : T → VersionData) (old new : NodeState T) (string : List ℕ) : Type 0 where
  pub key : List ℕ
  pub is_key : IsKey (model old.table) old.form string key
  pub kept : new ≡ with_entry old (record { string = string; key = key })

-- `Kept` keeps the string, every other answer changes nothing
abbrev pub LeavesKept : {T : Type 0} → (T → VersionData) → NodeState T → NodeState T → List ℕ → Result Taken NodeFault → Type 0
LeavesKept model old new string (Ok taken.Kept) = KeepsString model old new string
LeavesKept model old new string (Ok taken.Known) = new ≡ old
LeavesKept model old new string (Err fault) = new ≡ old
