use Rattle.np_versions.proofs.pairs.Pairs.as_slice.Goals as goal

pub returns-clause-same : goal.returns-clause-same
returns-clause-same c = rw (← c.self.view_is) c.deref.ensures.value
