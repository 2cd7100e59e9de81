-- What `take` answers, when, and what it leaves.
use Rattle.std.specs.Prelude.{◌≡◌, ◌≢◌, ℕ, List, Result, Ok, Err}
use Rattle.np_node.specs.Messages.{Message, IsMessage, IsMessageFault}
use Rattle.np_node.specs.Nodes.{NodeState, State, IsKept, IsNew, HasPlace, HasNoPlace, with_entry}
use Rattle.np_node.specs.Strings.{Entry, IsEntry, IsKeepable, IsKey, IsStringFault}
use Rattle.np_node.specs.declared.taking.Taken.{Taken}
use Rattle.np_node.specs.declared.taking.Taken.TheVariants.{Kept, Known}
use Rattle.np_node.specs.declared.faults.NodeFault.{NodeFault}
use Rattle.np_node.specs.declared.faults.NodeFault.TheVariants.{Malformed, OtherForm, TooLong, NotUtf8, Unassigned, KeyDiffers, Full, Memory, OlderTables}

-- the bytes are a message of another form than the node's
pub record IsMessageOfOtherForm (node : State) (bytes : List ℕ) : Type 0 where
  pub message : Message
  pub spelled : IsMessage bytes message
  pub other : message.form ≢ node.form

-- the bytes are a message of the node's form, and its string and key have a property
pub record Tells (node : State) (bytes : List ℕ) (P : Entry → Type 0) : Type 0 where
  pub entry : Entry
  pub spelled : IsMessage bytes (record { form = node.form; entry = entry })
  pub has : P entry

-- the string may be kept, and the key isn't its key
abbrev pub HasOtherKey : State → Entry → Type 0
HasOtherKey node e = IsKeepable node.version e.string × ¬ IsKey node.version node.form e.string e.key

-- each answer's cause to a string and its key, with those of the answers before it absent: too long, not UTF-8, unassigned, key
-- differs, known, full, kept. Want of memory comes only where the string may be kept and isn't yet.
abbrev pub AnswersEntry : State → Entry → Result Taken NodeFault → Type 0
AnswersEntry node e (Ok Kept) = IsEntry node.version node.form e × HasPlace node e.string
AnswersEntry node e (Ok Known) = IsEntry node.version node.form e × IsKept node.entries e.string
AnswersEntry node e (Err TooLong) = IsStringFault node.version e.string TooLong
AnswersEntry node e (Err (NotUtf8 at)) = IsStringFault node.version e.string (NotUtf8 at)
AnswersEntry node e (Err (Unassigned at code)) = IsStringFault node.version e.string (Unassigned at code)
AnswersEntry node e (Err KeyDiffers) = HasOtherKey node e
AnswersEntry node e (Err Full) = IsEntry node.version node.form e × HasNoPlace node e.string
AnswersEntry node e (Err Memory) = IsNew node e.string
AnswersEntry node e (Err (Malformed at)) = ⊥
AnswersEntry node e (Err OtherForm) = ⊥
AnswersEntry node e (Err (OlderTables need have)) = ⊥

-- the bytes are a message of the node's form, and the answer is one to its string and key
abbrev pub AnswersTold : State → List ℕ → Result Taken NodeFault → Type 0
AnswersTold node bytes answer = Tells node bytes (λ e. AnswersEntry node e answer)

-- malformed bytes are refused first, then another form; every other answer is one to the string and the key
abbrev pub AnswersTake : State → List ℕ → Result Taken NodeFault → Type 0
AnswersTake node bytes (Err (Malformed at)) = IsMessageFault bytes at
AnswersTake node bytes (Err OtherForm) = IsMessageOfOtherForm node bytes
AnswersTake node bytes (Err TooLong) = AnswersTold node bytes (Err TooLong)
AnswersTake node bytes (Err (NotUtf8 at)) = AnswersTold node bytes (Err (NotUtf8 at))
AnswersTake node bytes (Err (Unassigned at code)) = AnswersTold node bytes (Err (Unassigned at code))
AnswersTake node bytes (Err KeyDiffers) = AnswersTold node bytes (Err KeyDiffers)
AnswersTake node bytes (Err Full) = AnswersTold node bytes (Err Full)
AnswersTake node bytes (Err Memory) = AnswersTold node bytes (Err Memory)
AnswersTake node bytes (Err (OlderTables need have)) = ⊥
AnswersTake node bytes (Ok answer) = AnswersTold node bytes (Ok answer)

-- `Kept` keeps what the message tells, every other answer changes nothing
abbrev pub LeavesTaken : {T : Type 0} → NodeState T → NodeState T → List ℕ → Result Taken NodeFault → Type 0
LeavesTaken old new bytes (Ok Kept) = (e : Entry) × IsMessage bytes (record { form = old.form; entry = e }) × (new ≡ with_entry old e)
LeavesTaken old new bytes (Ok Known) = new ≡ old
LeavesTaken old new bytes (Err fault) = new ≡ old
