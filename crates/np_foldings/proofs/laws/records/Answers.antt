use Rattle.np_foldings.proofs.LawGrammar.{one_list_of_records}
use Rattle.np_foldings.proofs.laws.records.Goals as goal

pub returns : goal.returns
returns c = one_list_of_records
