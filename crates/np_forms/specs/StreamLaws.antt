-- The laws that streams stand on, over the definitions alone.
use Rattle.std.specs.Prelude.{ℕ, List, [], ◌∷◌, ◌++◌}
use Rattle.np_code_points.specs.declared.forms.Form.{Form}
use Rattle.np_forms.specs.Forms.{IsNormalForm}
use Rattle.np_forms.specs.Streams.{IsCutAtLastStarter}
use Rattle.np_versions.specs.Conditions.{IsSound}
use Rattle.np_versions.specs.Versions.{VersionData}

-- one more code point changes a normal form x ++ y from its last starter on alone: y and that code point have the rest as their normal form
abbrev pub OneMore : Type 0
OneMore =
    (v : VersionData) (form : Form) (text x y z : List ℕ) (c : ℕ) → IsSound v → IsNormalForm v form text (x ++ y) → IsCutAtLastStarter v x y →
    IsNormalForm v form (y ++ c ∷ []) z → IsNormalForm v form (text ++ c ∷ []) (x ++ z)
