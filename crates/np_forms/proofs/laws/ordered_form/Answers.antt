use Rattle.np_forms.proofs.FormLemmas.{one_ordered_form}
use Rattle.np_forms.proofs.laws.ordered_form.Goals as goal

pub returns : goal.returns
returns c = one_ordered_form
