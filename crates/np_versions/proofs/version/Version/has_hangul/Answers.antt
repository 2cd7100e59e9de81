use Rattle.np_versions.proofs.version.Version.has_hangul.Goals as goal

pub returns : goal.returns
returns c = rw (← c.self.view_is, ← c.deref.ensures) c.has_hangul.ensures
