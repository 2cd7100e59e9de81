-- Why a text that is not too long has no key here.
use Rattle.std.specs.Prelude.{ℕ, List}
use Rattle.np_node.specs.Strings.{IsKeepable, IsStringFault}
use Rattle.np_node.specs.declared.faults.NodeFault.{NodeFault}
use Rattle.np_node.specs.declared.faults.NodeFault.TheVariants.{Malformed, OtherForm, TooLong, NotUtf8, Unassigned, KeyDiffers, Full, Memory, OlderTables}
use Rattle.np_versions.specs.Versions.{VersionData}

-- a code point of it is not assigned; or memory ran out, though it may be kept
abbrev pub IsKeyFault : VersionData → List ℕ → NodeFault → Type 0
IsKeyFault v string (Unassigned at code) = IsStringFault v string (Unassigned at code)
IsKeyFault v string Memory = IsKeepable v string
IsKeyFault v string TooLong = ⊥
IsKeyFault v string (NotUtf8 at) = ⊥
IsKeyFault v string (Malformed at) = ⊥
IsKeyFault v string OtherForm = ⊥
IsKeyFault v string KeyDiffers = ⊥
IsKeyFault v string Full = ⊥
IsKeyFault v string (OlderTables need have) = ⊥
