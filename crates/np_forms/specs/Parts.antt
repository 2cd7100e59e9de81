-- Texts of which each part is its own stabilized string.
use Rattle.std.specs.Prelude.{◌≡◌, ℕ, List, ◌++◌}
use Rattle.np_code_points.specs.declared.forms.Form.{Form}
use Rattle.np_forms.specs.Assigned.{IsAssigned}
use Rattle.np_forms.specs.Forms.{IsNormalForm}
use Rattle.np_versions.specs.Versions.{VersionData}

-- wherever a part begins and ends, its code points are assigned, and it is its own normal form
abbrev pub IsEachPartStable : VersionData → Form → List ℕ → Type 0
IsEachPartStable v form cs = (before part after : List ℕ) → cs ≡ before ++ (part ++ after) → IsAssigned v part × IsNormalForm v form part part
