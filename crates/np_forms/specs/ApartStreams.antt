-- A stream apart from its table.
use Rattle.std.specs.Prelude.{◌≡◌, ℕ, List, map}
use Rattle.np_code_points.specs.declared.forms.Form.{Form}
use Rattle.np_versions.specs.Versions.{VersionData, class_of}

-- its form, and the code points that it holds back, beside their classes
pub record ApartState : Type 0 where
  pub form : Form
  pub pending : List ℕ
  pub classes : List ℕ

-- the classes are those of the version
abbrev pub IsApartOf : VersionData → ApartState → Type 0
IsApartOf v s = s.classes ≡ map (class_of v) s.pending
