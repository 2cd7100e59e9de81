-- The caseless list as a function: a way to the one list of `IsCaseless`.
use Rattle.std.specs.Prelude.{ℕ, Bool, true, false, List}
use Rattle.np_code_points.specs.Forms.{is_compat}
use Rattle.np_code_points.specs.declared.forms.Form.{Form}
use Rattle.np_code_points.specs.declared.forms.Form.TheVariants.{Nfd, Nfkd}
use Rattle.np_forms.specs.inside.NormalForms.{normal_form}
use Rattle.np_caseless.specs.Folded.{FoldedVersion, fold_all}

abbrev pub folded : FoldedVersion → Bool → List ℕ → List ℕ
folded v false xs = fold_all v.foldings (normal_form v.version Nfd xs)
folded v true xs = fold_all v.foldings (normal_form v.version Nfkd (fold_all v.foldings (normal_form v.version Nfd xs)))

unfoldable pub caseless : FoldedVersion → Form → List ℕ → List ℕ
caseless v form xs = normal_form v.version form (folded v (is_compat form) xs)
