use Rattle.np_ucd.proofs.LawGrammar.{says_one_text}
use Rattle.np_ucd.proofs.laws.exclusion_text.Goals as goal

pub returns : goal.returns
returns c = says_one_text
