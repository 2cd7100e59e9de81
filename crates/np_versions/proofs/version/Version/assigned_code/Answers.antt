use Rattle.np_versions.proofs.version.Version.assigned_code.Goals as goal

pub returns : goal.returns
returns c = rw (← c.self.view_is, ← c.deref.ensures) c.assigned.ensures
