-- Images that are read or written up to some entry.
use Rattle.std.specs.Prelude.{◌≡◌, ℕ, List, ◌++◌, length, take, drop, codes, All, ◌⊎◌, Some, None}
use Rattle.np_code_points.specs.declared.forms.Form.{Form}
use Rattle.np_node.specs.Fields.{FitsFields}
use Rattle.np_node.specs.Images.{Needs, IsImage, head_bytes, entries_bytes}
use Rattle.np_node.specs.Nodes.{NodeState, State}
use Rattle.np_node.specs.Restoring.{AreRight, HasRoom, IsWrong, NeedsMore, place_behind}
use Rattle.np_node.specs.Strings.{Entry}
use Rattle.np_node.specs.declared.faults.ImageFault.{ImageFault}
use Rattle.np_node.specs.declared.faults.NodeFault.TheVariants.{Memory, OlderTables}
use Rattle.np_node.specs.declared.fields.Fields.{Fields}
use Rattle.np_node.specs.declared.images.Layout.{Layout}
use Rattle.np_node.specs.declared.images.Layout.TheVariants.{First, Second}
use Rattle.np_node.specs.inside.Reading.{left_of}
use Rattle.np_versions.specs.Versions.{VersionData}

-- the name that an image of the layout begins with
abbrev pub layout_name : Layout → List ℕ
layout_name First = codes "NPS1"
layout_name Second = codes "NPS2"

-- the bytes are an image that needs so much, of the form and with so many entries
pub record HasShape (bytes : List ℕ) (needs : Needs) (form : Form) (count : ℕ) : Type 0 where
  pub entries : List Entry
  pub spelled : IsImage bytes (record { needs = needs; form = form; entries = entries })
  pub counted : length entries ≡ count

-- the reader went over the head and n whole entries
pub record HasRead (bytes : List ℕ) (here : Fields) (needs : Needs) (form : Form) (count n : ℕ) : Type 0 where
  pub entries : List Entry
  pub counted : length entries ≡ n
  pub fits : All FitsFields entries
  pub split : bytes ≡ head_bytes needs form count ++ (entries_bytes needs entries ++ left_of here)
  pub place : here.at ≡ place_behind needs form count entries

-- the node has the first n entries of an image, each of them right, and the reader stands before the others
pub record IsFilling {T : Type 0} (model : T → VersionData) (empty node : NodeState T) (bytes : List ℕ) (needs : Needs) (count : ℕ) (here : Fields)
    (n : ℕ) : Type 0 where
  pub entries : List Entry
  pub spelled : IsImage bytes (record { needs = needs; form = empty.form; entries = entries })
  pub counted : length entries ≡ count
  pub room : HasRoom (model empty.table) empty.room needs entries
  pub node_is : node ≡ record empty { entries = take n entries }
  pub right : AreRight (model empty.table) empty.form (take n entries)
  pub left_is : left_of here ≡ entries_bytes needs (drop n entries)
  pub place : here.at ≡ place_behind needs empty.form count (take n entries)

-- the whole image is refused, since it needs more code points than the version has
abbrev pub IsOlderRefusal : VersionData → Needs → ImageFault → Type 0
IsOlderRefusal v needs refused =
    (need : ℕ) × (have : ℕ) × (refused ≡ record { entry = None; fault = OlderTables need have }) × NeedsMore v needs need have

-- want of memory, without the entry's number, or what is wrong with an entry that comes to a node, with its number
abbrev pub IsEntryRefusal : State → Entry → ℕ → ℕ → ImageFault → Type 0
IsEntryRefusal node e number at refused =
    (refused ≡ record { entry = None; fault = Memory }) ⊎ ((refused.entry ≡ Some number) × IsWrong node.version node.form node.entries e at refused.fault)
