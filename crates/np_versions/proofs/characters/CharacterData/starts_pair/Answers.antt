use Rattle.std.proofs.Common.{rules}
use Rattle.np_versions.proofs.characters.CharacterData.starts_pair.Goals as goal

pub returns-in-len2 : goal.returns-in-len2
returns-in-len2 c = search rules
