-- The normal form as a function: a way to the one list of `IsNormalForm`.
use Rattle.std.specs.Prelude.{ℕ, Bool, true, false, List, flat_map}
use Rattle.np_forms.specs.inside.Composing.{compose_of}
use Rattle.np_code_points.specs.declared.forms.Form.{Form}
use Rattle.np_code_points.specs.Forms.{is_compat, composes}
use Rattle.np_versions.specs.inside.FullDecompositions.{full_of}
use Rattle.np_forms.specs.inside.CanonicalOrder.{canonical_order}
use Rattle.np_versions.specs.Versions.{VersionData, class_of}

unfoldable pub decomposed : VersionData → Bool → List ℕ → List ℕ
decomposed v compat xs = canonical_order (class_of v) (flat_map (full_of v compat) xs)

abbrev pub ended : VersionData → Bool → List ℕ → List ℕ
ended v true xs = compose_of v xs
ended v false xs = xs

unfoldable pub normal_form : VersionData → Form → List ℕ → List ℕ
normal_form v form xs = ended v (composes form) (decomposed v (is_compat form) xs)
