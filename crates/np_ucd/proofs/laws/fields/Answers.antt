use Rattle.np_ucd.proofs.LawGrammar.{one_list_of_fields}
use Rattle.np_ucd.proofs.laws.fields.Goals as goal

pub returns : goal.returns
returns c = one_list_of_fields
