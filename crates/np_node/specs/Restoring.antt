-- What `restore` answers, and when.
use Rattle.std.specs.Prelude.{◌≡◌, ◌≢◌, ℕ, ◌+◌, ◌<◌, ◌≤◌, List, length, take, slice_get, All, Option, Some, None, Result, Ok, Err}
use Rattle.np_code_points.specs.declared.forms.Form.{Form}
use Rattle.np_node.specs.Images.{Image, Needs, IsImage, IsImageFault, head_bytes, entries_bytes}
use Rattle.np_node.specs.Nodes.{NodeState, IsKept, AreUnlike}
use Rattle.np_node.specs.Strings.{Entry, IsEntry, IsKeepable, IsKey, IsStringFault}
use Rattle.np_node.specs.declared.faults.ImageFault.{ImageFault}
use Rattle.np_node.specs.declared.faults.NodeFault.{NodeFault}
use Rattle.np_node.specs.declared.faults.NodeFault.TheVariants.{Malformed, OtherForm, TooLong, NotUtf8, Unassigned, KeyDiffers, Full, Memory, OlderTables}
use Rattle.np_versions.specs.Counts.{assigned_count}
use Rattle.np_versions.specs.Versions.{VersionData}

-- the bytes are an image of another form
pub record IsImageOfOtherForm (form : Form) (bytes : List ℕ) : Type 0 where
  pub image : Image
  pub spelled : IsImage bytes image
  pub other : image.form ≢ form

-- the bytes are an image of the form, and how many code points it needs and its entries have a property
pub record Holds (form : Form) (bytes : List ℕ) (P : Needs → List Entry → Type 0) : Type 0 where
  pub needs : Needs
  pub entries : List Entry
  pub spelled : IsImage bytes (record { needs = needs; form = form; entries = entries })
  pub has : P needs entries

-- the version assigns fewer code points than the one that saved
abbrev pub IsOlder : VersionData → Needs → Type 0
IsOlder v None = ⊥
IsOlder v (Some need) = assigned_count v < need

-- the version that saved assigns `need` code points, and this one fewer, `have` of them
pub record NeedsMore (v : VersionData) (needs : Needs) (need have : ℕ) : Type 0 where
  pub is : needs ≡ Some need
  pub has : have ≡ assigned_count v
  pub fewer : have < need

-- the version isn't older, and there is room for the entries
pub record HasRoom (v : VersionData) (room : ℕ) (needs : Needs) (entries : List Entry) : Type 0 where
  pub young : ¬ IsOlder v needs
  pub fits : length entries ≤ room

-- the version isn't older, and there are more entries than the room
pub record HasNoRoom (v : VersionData) (room : ℕ) (needs : Needs) (entries : List Entry) : Type 0 where
  pub young : ¬ IsOlder v needs
  pub more : room < length entries

-- each is right by itself, and no string stands twice
abbrev pub AreRight : VersionData → Form → List Entry → Type 0
AreRight v form entries = All (IsEntry v form) entries × AreUnlike entries

-- what is wrong with the entry e, whose first byte is at `place`, behind the entries `before`: the string, else the key, else
-- that an earlier entry has the string
abbrev pub IsWrong : VersionData → Form → List Entry → Entry → ℕ → NodeFault → Type 0
IsWrong v form before e place TooLong = IsStringFault v e.string TooLong
IsWrong v form before e place (NotUtf8 at) = IsStringFault v e.string (NotUtf8 at)
IsWrong v form before e place (Unassigned at code) = IsStringFault v e.string (Unassigned at code)
IsWrong v form before e place KeyDiffers = IsKeepable v e.string × ¬ IsKey v form e.string e.key
IsWrong v form before e place (Malformed at) = IsEntry v form e × IsKept before e.string × (at ≡ place)
IsWrong v form before e place OtherForm = ⊥
IsWrong v form before e place Full = ⊥
IsWrong v form before e place Memory = ⊥
IsWrong v form before e place (OlderTables need have) = ⊥

-- the place of the first byte behind so many entries of an image
abbrev pub place_behind : Needs → Form → ℕ → List Entry → ℕ
place_behind needs form count before = length (head_bytes needs form count) + length (entries_bytes needs before)

-- entry n is the first that is wrong, and the fault is what is wrong with it
pub record IsFirstWrong (v : VersionData) (needs : Needs) (form : Form) (entries : List Entry) (n : ℕ) (fault : NodeFault) : Type 0 where
  pub entry : Entry
  pub here : slice_get entries n ≡ Some entry
  pub right : AreRight v form (take n entries)
  pub wrong : IsWrong v form (take n entries) entry (place_behind needs form (length entries) (take n entries)) fault

-- the version isn't older, there is room for the entries, and entry n is the first that is wrong
abbrev pub HasWrong : VersionData → Form → ℕ → ℕ → NodeFault → Needs → List Entry → Type 0
HasWrong v form room n fault needs entries = HasRoom v room needs entries × IsFirstWrong v needs form entries n fault

-- each refusal's cause, with those of the refusals before it absent: the shape, the form, the version against what the image
-- needs, the count of entries against the room, and then the first wrong entry. Want of memory comes behind all but the last.
abbrev pub IsRestoreFault : VersionData → Form → ℕ → List ℕ → Option ℕ → NodeFault → Type 0
IsRestoreFault v form room bytes None (Malformed at) = IsImageFault bytes at
IsRestoreFault v form room bytes None OtherForm = IsImageOfOtherForm form bytes
IsRestoreFault v form room bytes None (OlderTables need have) = Holds form bytes (λ needs es. NeedsMore v needs need have)
IsRestoreFault v form room bytes None Full = Holds form bytes (HasNoRoom v room)
IsRestoreFault v form room bytes None Memory = Holds form bytes (HasRoom v room)
IsRestoreFault v form room bytes None TooLong = ⊥
IsRestoreFault v form room bytes None (NotUtf8 at) = ⊥
IsRestoreFault v form room bytes None (Unassigned at code) = ⊥
IsRestoreFault v form room bytes None KeyDiffers = ⊥
IsRestoreFault v form room bytes (Some n) fault = Holds form bytes (HasWrong v form room n fault)

-- a node with this table, form and room, whose entries are those of the image, in order, each of them right
pub record IsRestored {T : Type 0} (model : T → VersionData) (table : T) (form : Form) (room : ℕ) (bytes : List ℕ) (node : NodeState T) : Type 0 where
  pub needs : Needs
  pub table_is : node.table ≡ table
  pub form_is : node.form ≡ form
  pub room_is : node.room ≡ room
  pub image : IsImage bytes (record { needs = needs; form = form; entries = node.entries })
  pub has_room : HasRoom (model table) room needs node.entries
  pub right : AreRight (model table) form node.entries

abbrev pub AnswersRestore : {T : Type 0} → (T → VersionData) → T → Form → ℕ → List ℕ → Result (NodeState T) ImageFault → Type 0
AnswersRestore model table form room bytes (Ok node) = IsRestored model table form room bytes node
AnswersRestore model table form room bytes (Err refused) = IsRestoreFault (model table) form room bytes refused.entry refused.fault
