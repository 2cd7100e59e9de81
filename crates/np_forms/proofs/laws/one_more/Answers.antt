use Rattle.np_forms.proofs.StreamLemmas.{one_more}
use Rattle.np_forms.proofs.laws.one_more.Goals as goal

pub returns : goal.returns
returns c = one_more
