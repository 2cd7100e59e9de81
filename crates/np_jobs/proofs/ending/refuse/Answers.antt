use Rattle.std.proofs.Common.{inl}
use Rattle.np_jobs.proofs.ending.refuse.Goals as goal

pub returns-in-Ok : goal.returns-in-Ok
returns-in-Ok g c = inl (rw (← c.in-Ok.ensures.line, ← c.as_str.ensures) c.tell.ensures, c.status.ensures)
