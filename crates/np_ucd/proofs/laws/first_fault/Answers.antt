use Rattle.np_ucd.proofs.LawGrammar.{one_verdict}
use Rattle.np_ucd.proofs.laws.first_fault.Goals as goal

pub returns : goal.returns
returns c = one_verdict
