use Rattle.np_caseless.proofs.LengthLemmas.{few_code_points, few_bytes}
use Rattle.np_caseless.proofs.laws.length.Goals as goal

pub returns-clause-code_points : goal.returns-clause-code_points
returns-clause-code_points c = few_code_points

pub returns-clause-bytes : goal.returns-clause-bytes
returns-clause-bytes c = few_bytes
