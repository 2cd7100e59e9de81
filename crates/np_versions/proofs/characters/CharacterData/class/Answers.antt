use Rattle.np_versions.proofs.RowLemmas.{class_of-at}
use Rattle.np_versions.proofs.characters.CharacterData.class.Goals as goal

pub returns-in-Some : goal.returns-in-Some
returns-in-Some c = class_of-at c.args.self.now c.args.code _ c.in-Some.ensures.row

pub returns-in-None : goal.returns-in-None
returns-in-None c = class_of-at c.args.self.now c.args.code _ c.in-None.ensures.row
