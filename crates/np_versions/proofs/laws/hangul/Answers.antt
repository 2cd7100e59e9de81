use Rattle.np_versions.proofs.HangulLemmas.{by_arithmetic, hangul_on}
use Rattle.np_versions.proofs.laws.hangul.Goals as goal

pub returns-clause-on : goal.returns-clause-on
returns-clause-on c = hangul_on

pub returns-clause-each : goal.returns-clause-each
returns-clause-each c = by_arithmetic
