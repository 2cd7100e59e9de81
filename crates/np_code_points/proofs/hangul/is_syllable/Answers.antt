use Rattle.std.proofs.Common.{rules}
use Rattle.np_code_points.proofs.hangul.is_syllable.Goals as goal

pub returns : goal.returns
returns c = search rules
