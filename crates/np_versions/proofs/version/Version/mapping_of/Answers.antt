use Rattle.np_versions.proofs.version.Version.mapping_of.Goals as goal

pub returns : goal.returns
returns c = rw (← c.self.view_is, ← c.deref.ensures) c.mapping.ensures
