use Rattle.np_versions.proofs.faults.TableFault.name.Goals as goal

pub returns-in-TooDeep : goal.returns-in-TooDeep
returns-in-TooDeep c = rw c.in-TooDeep.is
