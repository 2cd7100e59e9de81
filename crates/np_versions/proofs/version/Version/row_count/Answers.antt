use Rattle.np_versions.proofs.version.Version.row_count.Goals as goal

pub returns : goal.returns
returns c = rw (← c.self.view_is, ← c.deref.ensures) c.len.ensures.count
