use Rattle.np_ucd.proofs.LawGrammar.{one_list_of_rows}
use Rattle.np_ucd.proofs.laws.rows.Goals as goal

pub returns : goal.returns
returns c = one_list_of_rows
