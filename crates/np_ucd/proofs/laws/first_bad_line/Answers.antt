use Rattle.np_ucd.proofs.LawGrammar.{one_bad_line}
use Rattle.np_ucd.proofs.laws.first_bad_line.Goals as goal

pub returns : goal.returns
returns c = one_bad_line
