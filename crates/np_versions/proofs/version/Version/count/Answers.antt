use Rattle.np_versions.proofs.version.Version.count.Goals as goal

pub returns : goal.returns
returns c = rw (← c.self.view_is, ← c.deref.ensures) c.assigned_count.ensures
