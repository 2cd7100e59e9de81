use Rattle.std.proofs.Common.{rules}
use Rattle.np_words.proofs.command.command_on_text.Goals as goal

pub returns : goal.returns
returns c = search rules
