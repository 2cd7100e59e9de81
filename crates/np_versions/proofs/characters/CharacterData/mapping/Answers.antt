use Rattle.np_versions.proofs.RowLemmas.{file_mapping-at}
use Rattle.np_versions.proofs.characters.CharacterData.mapping.Goals as goal

pub returns-in-Some : goal.returns-in-Some
returns-in-Some c = file_mapping-at c.args.self.now c.args.code _ c.in-Some.ensures.row

pub returns-in-None : goal.returns-in-None
returns-in-None c = file_mapping-at c.args.self.now c.args.code _ c.in-None.ensures.row
