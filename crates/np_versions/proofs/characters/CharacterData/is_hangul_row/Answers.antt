use Rattle.np_versions.proofs.RowLemmas.{accesses}
use Rattle.std.proofs.Common.{arith}
use Rattle.np_versions.proofs.characters.CharacterData.is_hangul_row.Goals as goal

pub returns-then-class-eq0 : goal.returns-then-class-eq0
returns-then-class-eq0 c = grind (arith, accesses)

pub returns-else-class-eq0 : goal.returns-else-class-eq0
returns-else-class-eq0 c = grind (arith, accesses)
