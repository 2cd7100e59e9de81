use Rattle.np_tables.proofs.page_hints.own_hints.Goals as goal

pub returns-then-starter : goal.returns-then-starter
returns-then-starter c = rw c.if-starter.true
