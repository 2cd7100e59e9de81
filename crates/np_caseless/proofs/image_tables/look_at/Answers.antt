use Rattle.std.proofs.Common.{inr}
use Rattle.np_caseless.proofs.image_tables.look_at.Goals as goal

pub returns-then-is_own-clause-told : goal.returns-then-is_own-clause-told
returns-then-is_own-clause-told g c = λ marked. inr (inr (c.is_own.ensures c.if-is_own.true))
