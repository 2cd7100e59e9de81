use Rattle.np_c.proofs.handles.Handle.take.Goals as goal

pub returns-then-is_open-clause-none : goal.returns-then-is_open-clause-none
returns-then-is_open-clause-none c = tt
