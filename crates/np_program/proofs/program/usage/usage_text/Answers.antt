use Rattle.std.proofs.Common.{refl}
use Rattle.np_program.proofs.program.usage.usage_text.Goals as goal

pub returns : goal.returns
returns c = refl
