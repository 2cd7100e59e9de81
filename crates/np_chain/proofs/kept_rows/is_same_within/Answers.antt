use Rattle.std.proofs.Common.{rules}
use Rattle.np_chain.proofs.kept_rows.is_same_within.Goals as goal

pub returns-then-has_no_pair : goal.returns-then-has_no_pair
returns-then-has_no_pair c = search rules
