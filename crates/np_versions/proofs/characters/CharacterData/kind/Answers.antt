use Rattle.np_versions.proofs.RowLemmas.{file_kind-at}
use Rattle.np_versions.proofs.characters.CharacterData.kind.Goals as goal

pub returns-in-Some : goal.returns-in-Some
returns-in-Some c = file_kind-at c.args.self.now c.args.code _ c.in-Some.ensures.row

pub returns-in-None : goal.returns-in-None
returns-in-None c = file_kind-at c.args.self.now c.args.code _ c.in-None.ensures.row
