use Rattle.std.proofs.Common.{refl}
use Rattle.np_lines_job.proofs.words.usage.lines_usage_text.Goals as goal

pub returns : goal.returns
returns c = refl
