use Rattle.np_versions.proofs.version.Version.place_of.Goals as goal

pub returns-clause-none : goal.returns-clause-none
returns-clause-none c = rw (← c.self.view_is, ← c.deref.ensures) c.place_of.ensures.none

pub returns-clause-row : goal.returns-clause-row
returns-clause-row c = rw (← c.self.view_is, ← c.deref.ensures) c.place_of.ensures.row
