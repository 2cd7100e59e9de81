-- When the stabilized form is refused (UAX #15, section 12).
use Rattle.std.specs.Prelude.{ℕ, List}
use Rattle.np_forms.specs.declared.stabilized.NpssFault.{NpssFault}
use Rattle.np_forms.specs.declared.stabilized.NpssFault.TheVariants.{Unassigned, Memory}
use Rattle.np_forms.specs.Assigned.{IsAssigned, IsFirstUnassigned}
use Rattle.np_versions.specs.Versions.{VersionData}

-- a place is that of the first code point that is not assigned, and want of memory comes only where each is assigned
abbrev pub IsNpssFault : VersionData → List ℕ → NpssFault → Type 0
IsNpssFault v xs (Unassigned at code) = IsFirstUnassigned v xs at code
IsNpssFault v xs Memory = IsAssigned v xs
