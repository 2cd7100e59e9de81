use Rattle.std.proofs.Common.{rules}
use Rattle.np_code_points.specs.inside.WordValues.{scalar_value}
use Rattle.np_code_points.proofs.codes.scalar_of.Goals as goal

pub returns-clause-value : goal.returns-clause-value
unfolding scalar_value
returns-clause-value c = search rules
