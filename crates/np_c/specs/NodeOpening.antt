-- How a node is opened, new or from an image, and how it moves to another version. What is opened is none where there is none.
use Rattle.std.specs.Prelude.{◌≡◌, ◌⊎◌, ◌<◌, ◌≤◌, ℕ, List, [], Option, Some, None, Result, Ok, Err}
use Rattle.np_chain.specs.Breaks.{IsFirstBreak}
use Rattle.np_chain.specs.Extension.{Extends}
use Rattle.np_chain.specs.declared.breaks.Break.{Break}
use Rattle.np_code_points.specs.Forms.{byte_of}
use Rattle.np_code_points.specs.declared.forms.Form.{Form}
use Rattle.np_node.specs.Restoring.{AnswersRestore}
use Rattle.np_node.specs.declared.faults.ImageFault.{ImageFault}
use Rattle.np_node.specs.declared.faults.NodeFault.{NodeFault}
use Rattle.np_versions.specs.Versions.{VersionData}
use Rattle.np_c.specs.Answers.{told_break}
use Rattle.np_c.specs.Contents.{HeldNode, node_in}
use Rattle.np_c.specs.Nodes.{alone, itself, told_fault}
use Rattle.np_c.specs.Texts.{IsFormLetter}
use Rattle.np_c.specs.declared.answers.Answer.{Answer}
use Rattle.np_c.specs.declared.content.Content.{Content}

-- the letter is that of no form
pub record HasNoForm (letter : ℕ) (a : Answer) : Type 0 where
  pub told : a ≡ alone 6
  pub none : ¬ (IsFormLetter letter)

-- the letter is that of a form, and no node may have such a room
pub record HasBigRoom (letter room : ℕ) (a : Answer) : Type 0 where
  pub told : a ≡ alone 22
  pub form : IsFormLetter letter
  pub big : 65536 < room

abbrev pub IsNoFrame : ℕ → ℕ → Answer → Type 0
IsNoFrame letter room a = HasNoForm letter a ⊎ HasBigRoom letter room a

-- the node is what is opened; or memory ran out
abbrev pub IsOpened : HeldNode → Option Content → Answer → Type 0
IsOpened node opened a = ((a ≡ alone 0) × (node_in opened ≡ Some node)) ⊎ ((a ≡ alone 4) × (opened ≡ None))

-- a node may have the form of the letter and the room, and then it is opened as told; or it may not
abbrev pub IsFramed : ℕ → ℕ → (Form → Option Content → Answer → Type 0) → Option Content → Answer → Type 0
IsFramed letter room Opens opened a =
    ((opened ≡ None) × IsNoFrame letter room a) ⊎ ((form : Form) × (letter ≡ byte_of form) × (room ≤ 65536) × Opens form opened a)

-- `npss_node_new`: the node keeps nothing
abbrev pub IsNewAnswer : VersionData → ℕ → ℕ → Option Content → Answer → Type 0
IsNewAnswer v letter room opened a =
    IsFramed letter room (λ form. IsOpened (record { table = v; form = form; room = room; entries = [] })) opened a

-- the refusal of an image, or of an entry of it: then `length` is the entry's number, and the others tell its fault
abbrev pub told_refusal : Option ℕ → NodeFault → Answer
told_refusal None fault = told_fault fault
told_refusal (Some number) fault =
    record { status = 21; fault = (told_fault fault).status; code = (told_fault fault).code; place = (told_fault fault).place; length = number }

abbrev pub IsRestoreTold : Result HeldNode ImageFault → Option Content → Answer → Type 0
IsRestoreTold (Ok node) opened a = IsOpened node opened a
IsRestoreTold (Err refused) opened a = (a ≡ told_refusal refused.entry refused.fault) × (opened ≡ None)

-- what an image makes under a version, a form and a room is opened; or told why it makes nothing
pub record IsImageOpened (v : VersionData) (room : ℕ) (image : List ℕ) (form : Form) (opened : Option Content) (a : Answer) : Type 0 where
  pub outcome : Result HeldNode ImageFault
  pub answers : AnswersRestore itself v form room image outcome
  pub told : IsRestoreTold outcome opened a

-- `npss_node_restore`
abbrev pub IsRestoreAnswer : VersionData → ℕ → ℕ → List ℕ → Option Content → Answer → Type 0
IsRestoreAnswer v letter room image opened a = IsFramed letter room (IsImageOpened v room image) opened a

-- the version extends that of the node, which has it now, and what is kept is the same
pub record IsUpgraded (w : VersionData) (old new : HeldNode) (a : Answer) : Type 0 where
  pub told : a ≡ alone 0
  pub extends : Extends old.table w
  pub now : new ≡ record old { table = w }

-- the version has this first break, and nothing changed
pub record IsBroken (w : VersionData) (old new : HeldNode) (a : Answer) : Type 0 where
  pub first : Break
  pub is : IsFirstBreak old.table w first
  pub told : a ≡ told_break first
  pub now : new ≡ old

-- memory ran out, though the version extends that of the node, and nothing changed
pub record IsUpgradeRefused (w : VersionData) (old new : HeldNode) (a : Answer) : Type 0 where
  pub told : a ≡ alone 4
  pub extends : Extends old.table w
  pub now : new ≡ old

-- `npss_node_upgrade`
abbrev pub IsUpgradeAnswer : VersionData → HeldNode → HeldNode → Answer → Type 0
IsUpgradeAnswer w old new a = IsUpgraded w old new a ⊎ (IsBroken w old new a ⊎ IsUpgradeRefused w old new a)
