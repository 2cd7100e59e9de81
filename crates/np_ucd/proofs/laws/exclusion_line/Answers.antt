use Rattle.np_ucd.proofs.LawGrammar.{one_thing}
use Rattle.np_ucd.proofs.laws.exclusion_line.Goals as goal

pub returns : goal.returns
returns c = one_thing
