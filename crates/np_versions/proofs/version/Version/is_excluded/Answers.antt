use Rattle.np_versions.proofs.version.Version.is_excluded.Goals as goal

pub returns : goal.returns
returns c = rw (← c.self.view_is, ← c.deref.ensures) c.excluded.ensures
