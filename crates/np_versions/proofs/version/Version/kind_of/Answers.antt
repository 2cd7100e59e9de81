use Rattle.np_versions.proofs.version.Version.kind_of.Goals as goal

pub returns : goal.returns
returns c = rw (← c.self.view_is, ← c.deref.ensures) c.kind.ensures
