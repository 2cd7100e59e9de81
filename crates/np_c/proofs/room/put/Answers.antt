use Rattle.std.proofs.Common.{refl, inr, ap}
use Rattle.np_c.specs.declared.answers.Answer.{Answer}
use Rattle.np_c.proofs.room.put.Goals as goal

pub returns-then-length-room-clause-put : goal.returns-then-length-room-clause-put
returns-then-length-room-clause-put c = inr (record { status = ap (λ (a : Answer). a.status) c.of.ensures; lacks = c.if-length-room.true; room = refl; told = refl })
