use Rattle.np_versions.proofs.faults.TableFault.code.Goals as goal

pub returns-in-Memory : goal.returns-in-Memory
returns-in-Memory c = rw c.in-Memory.is
