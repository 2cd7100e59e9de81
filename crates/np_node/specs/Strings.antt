-- Strings that may be kept, and their keys.
use Rattle.std.specs.Prelude.{ℕ, ◌<◌, ◌≤◌, List, length, chars, IsUtf8}
use Rattle.np_code_points.specs.Text.{IsLongestValidPrefix}
use Rattle.np_code_points.specs.declared.forms.Form.{Form}
use Rattle.np_forms.specs.Assigned.{IsAssigned, IsFirstUnassigned}
use Rattle.np_forms.specs.Forms.{IsNormalForm}
use Rattle.np_node.specs.declared.faults.NodeFault.{NodeFault}
use Rattle.np_node.specs.declared.faults.NodeFault.TheVariants.{Malformed, OtherForm, TooLong, NotUtf8, Unassigned, KeyDiffers, Full, Memory, OlderTables}
use Rattle.np_versions.specs.Versions.{VersionData}

-- a string beside its key, both as bytes
pub record Entry : Type 0 where
  pub string : List ℕ
  pub key : List ℕ

-- the most bytes of a string
abbrev pub most_bytes : ℕ
most_bytes = 65536

-- the bytes are a text that a node may keep under a version
pub record IsKeepable (v : VersionData) (string : List ℕ) : Type 0 where
  pub short : length string ≤ most_bytes
  pub utf8 : IsUtf8 string
  pub assigned : IsAssigned v (chars string)

-- the key is UTF-8, and its text is the normal form of the string
pub record IsKey (v : VersionData) (form : Form) (string key : List ℕ) : Type 0 where
  pub utf8 : IsUtf8 key
  pub normal : IsNormalForm v form (chars string) (chars key)

-- a string that may be kept, beside its key
pub record IsEntry (v : VersionData) (form : Form) (entry : Entry) : Type 0 where
  pub keepable : IsKeepable v entry.string
  pub key : IsKey v form entry.string entry.key

-- why bytes can't be kept: too many of them; else they aren't UTF-8 behind the longest prefix that is; else the first code
-- point that isn't assigned, with its place. The other faults aren't a string's.
abbrev pub IsStringFault : VersionData → List ℕ → NodeFault → Type 0
IsStringFault v string TooLong = most_bytes < length string
IsStringFault v string (NotUtf8 at) = (length string ≤ most_bytes) × IsLongestValidPrefix string at × (at < length string)
IsStringFault v string (Unassigned at code) = (length string ≤ most_bytes) × IsUtf8 string × IsFirstUnassigned v (chars string) at code
IsStringFault v string (Malformed at) = ⊥
IsStringFault v string OtherForm = ⊥
IsStringFault v string KeyDiffers = ⊥
IsStringFault v string Full = ⊥
IsStringFault v string Memory = ⊥
IsStringFault v string (OlderTables need have) = ⊥
