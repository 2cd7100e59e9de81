use Rattle.std.proofs.Common.{rules}
use Rattle.np_words.proofs.caseless.key_in.Goals as goal

pub returns-clause-ok : goal.returns-clause-ok
returns-clause-ok c = search rules
