use Rattle.np_ucd.proofs.LawGrammar.{one_mapping}
use Rattle.np_ucd.proofs.laws.mappings.Goals as goal

pub returns : goal.returns
returns c = one_mapping
