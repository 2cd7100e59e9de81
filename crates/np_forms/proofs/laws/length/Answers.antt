use Rattle.np_forms.proofs.FormLemmas.{length-key, length-normal_form}
use Rattle.np_forms.proofs.laws.length.Goals as goal

pub returns-clause-code_points : goal.returns-clause-code_points
returns-clause-code_points c = λ v form xs ys sound is. length-normal_form v sound form xs ys is

pub returns-clause-bytes : goal.returns-clause-bytes
returns-clause-bytes c = λ v form string key sound text utf8 is. length-key v form string key sound text utf8 is
