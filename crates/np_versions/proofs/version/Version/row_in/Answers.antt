use Rattle.np_versions.proofs.version.Version.row_in.Goals as goal

pub returns-clause-place : goal.returns-clause-place
returns-clause-place c = rw (← c.self.view_is, ← c.deref.ensures) c.row_in.ensures.place
