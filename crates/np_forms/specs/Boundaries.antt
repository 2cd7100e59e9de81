-- Boundaries of a normal form, and what is its own form (UAX #15, section 9.1).
use Rattle.std.specs.Prelude.{ℕ, List, [], ◌∷◌, ◌++◌}
use Rattle.np_code_points.specs.declared.forms.Form.{Form}
use Rattle.np_forms.specs.Forms.{IsNormalForm}
use Rattle.np_versions.specs.Boundaries.{IsBoundary, IsYesStarter}
use Rattle.np_versions.specs.Conditions.{IsSound}
use Rattle.np_versions.specs.Versions.{VersionData}

-- at a boundary: what is before it and what begins with it have their forms each for itself
abbrev pub FormsAtBoundary : Type 0
FormsAtBoundary =
    (v : VersionData) (form : Form) (xs : List ℕ) (c : ℕ) (ys before after : List ℕ) → IsSound v → IsBoundary v form c →
    IsNormalForm v form xs before → IsNormalForm v form (c ∷ ys) after → IsNormalForm v form (xs ++ c ∷ ys) (before ++ after)

-- a starter that passes the quick check is its own form
abbrev pub YesStarterForm : Type 0
YesStarterForm = (v : VersionData) (form : Form) (c : ℕ) → IsSound v → IsYesStarter v form c → IsNormalForm v form (c ∷ []) (c ∷ [])
