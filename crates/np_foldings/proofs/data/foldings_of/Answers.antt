use Rattle.std.proofs.Common.{map}
use Rattle.np_foldings.specs.FoldingValues.{folding_of}
use Rattle.np_foldings.proofs.LawGrammar.{are_foldings}
use Rattle.np_foldings.proofs.data.foldings_of.Goals as goal

pub from_foldings-requires : goal.from_foldings-requires
from_foldings-requires c = are_foldings c.args.bytes.now (map folding_of c.take_lines.new.foldings.items) c.in_ok-take_lines.ensures.ok
