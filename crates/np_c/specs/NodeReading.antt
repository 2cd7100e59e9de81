-- What a node tells of the strings and keys that it keeps. Nothing changes in it.
use Rattle.std.specs.Prelude.{◌≡◌, ◌⊎◌, ◌≤◌, ◌++◌, ℕ, Bool, true, false, List, Some, Contains, length, slice_get}
use Rattle.np_node.specs.Comparing.{AnswersSame}
use Rattle.np_node.specs.Images.{image_bytes}
use Rattle.np_node.specs.Laws.{image_of}
use Rattle.np_node.specs.LentMessages.{TellsString}
use Rattle.np_node.specs.Nodes.{State, IsKept}
use Rattle.np_node.specs.Strings.{Entry, IsKey}
use Rattle.np_versions.specs.Counts.{assigned_count}
use Rattle.np_c.specs.Answers.{IsPutTelling}
use Rattle.np_c.specs.Nodes.{alone}
use Rattle.np_c.specs.declared.answers.Answer.{Answer}

-- a count
abbrev pub told_count : ℕ → Answer
told_count n = record { status = 0; fault = 0; code = 0; place = 0; length = n }

-- one of two strings isn't kept, the first or the second
abbrev pub told_lack : ℕ → Answer
told_lack number = record { status = 14; fault = number; code = 0; place = 0; length = 0 }

abbrev pub told_equal : Bool → Answer
told_equal true = alone 0
told_equal false = alone 11

-- `npss_node_same`: the first of the two that isn't kept; else whether they are equivalent
pub record IsSameAnswer (node : State) (left right : List ℕ) (a : Answer) : Type 0 where
  pub how : ((a ≡ told_lack 1) × (¬ IsKept node.entries left))
      ⊎ (((a ≡ told_lack 2) × IsKept node.entries left × (¬ IsKept node.entries right))
      ⊎ ((equal : Bool) × AnswersSame node left right (Some equal) × (a ≡ told_equal equal)))

-- nothing is written, since nothing such is kept
pub record IsNotKept (before after : List ℕ) (a : Answer) : Type 0 where
  pub told : a ≡ alone 14
  pub room : after ≡ before

-- the key that stands beside the string is put into the room
pub record IsKeyPut (node : State) (string before after : List ℕ) (a : Answer) : Type 0 where
  pub key : List ℕ
  pub kept : Contains node.entries (record { string = string; key = key })
  pub is_key : IsKey node.version node.form string key
  pub put : IsPutTelling 0 key before after a

-- `npss_node_key`
abbrev pub IsKeptKeyAnswer : State → List ℕ → List ℕ → List ℕ → Answer → Type 0
IsKeptKeyAnswer node string before after a = ((¬ IsKept node.entries string) × IsNotKept before after a) ⊎ IsKeyPut node string before after a

-- the string and the key of the entry are put into the room, and the string's length is told
pub record IsEntryPut (node : State) (index : ℕ) (before after : List ℕ) (a : Answer) : Type 0 where
  pub entry : Entry
  pub here : slice_get node.entries index ≡ Some entry
  pub put : IsPutTelling (length entry.string) (entry.string ++ entry.key) before after a

-- `npss_node_entry`
abbrev pub IsEntryAnswer : State → ℕ → List ℕ → List ℕ → Answer → Type 0
IsEntryAnswer node index before after a = ((length node.entries ≤ index) × IsNotKept before after a) ⊎ IsEntryPut node index before after a

-- the message that tells the string is put into the room, as the one that `accept` gave
pub record IsMessagePut (node : State) (string before after : List ℕ) (a : Answer) : Type 0 where
  pub message : List ℕ
  pub tells : TellsString node string message
  pub put : IsPutTelling 0 message before after a

-- `npss_node_message`
abbrev pub IsMessageAnswer : State → List ℕ → List ℕ → List ℕ → Answer → Type 0
IsMessageAnswer node string before after a = ((¬ IsKept node.entries string) × IsNotKept before after a) ⊎ IsMessagePut node string before after a

-- `npss_node_image`: the image of the second layout, with the count of the version's assigned code points, is put into the room
abbrev pub IsImageAnswer : State → List ℕ → List ℕ → Answer → Type 0
IsImageAnswer node before after a = IsPutTelling 0 (image_bytes (image_of (Some (assigned_count node.version)) node)) before after a
