use Rattle.np_versions.proofs.version.Version.class_of.Goals as goal

pub returns : goal.returns
returns c = rw (← c.self.view_is, ← c.deref.ensures) c.class.ensures
