use Rattle.np_foldings.proofs.LawGrammar.{one_verdict}
use Rattle.np_foldings.proofs.laws.verdict.Goals as goal

pub returns : goal.returns
returns c = one_verdict
