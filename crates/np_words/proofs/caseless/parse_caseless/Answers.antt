use Rattle.std.proofs.Common.{rules}
use Rattle.np_words.proofs.caseless.parse_caseless.Goals as goal

pub returns-in-empty-clause-free : goal.returns-in-empty-clause-free
returns-in-empty-clause-free c = search rules

pub returns-in-empty-clause-usage : goal.returns-in-empty-clause-usage
returns-in-empty-clause-usage c = search rules
