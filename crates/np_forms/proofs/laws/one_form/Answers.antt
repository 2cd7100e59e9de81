use Rattle.np_versions.proofs.ExampleLemmas.{IsSound-without_rows}
use Rattle.np_versions.proofs.ExampleLemmas.{IsSound-with_rows, IsSound-with_hangul, class_of-ring, hangul_on_with, IsCompositeOf-with_rows}
use Rattle.np_forms.proofs.FormLemmas.{one_form}
use Rattle.np_forms.proofs.laws.one_form.Goals as goal

pub returns-clause-only : goal.returns-clause-only
returns-clause-only c = one_form

pub returns-clause-met : goal.returns-clause-met
returns-clause-met c = (IsSound-without_rows, IsSound-with_rows, class_of-ring, IsCompositeOf-with_rows, IsSound-with_hangul, hangul_on_with)
