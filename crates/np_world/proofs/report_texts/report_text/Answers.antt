use Rattle.std.proofs.Common.{rules}
use Rattle.np_world.proofs.report_texts.report_text.Goals as goal

pub returns : goal.returns
returns c = search rules
