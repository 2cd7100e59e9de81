use Rattle.np_versions.proofs.characters.CharacterData.is_listed.Goals as goal

pub returns : goal.returns
returns c = rw (← c.self.view_is) c.holds.ensures
