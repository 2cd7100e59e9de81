use Rattle.std.proofs.Common.{true, false, refl}
use Rattle.np_world.proofs.node_steps.forget.Goals as goal

pub returns-then-forget : goal.returns-then-forget
returns-then-forget g c = λ sent. record {
  bytes = c.args.string.now;
  spells = record { utf8 = c.utf8.string; text_is = refl };
  answer = true;
  leaves = c.if-forget.ensures;
  stays = record { index = refl; image = refl };
  sent = refl;
  told = refl;
}

pub returns-else-forget : goal.returns-else-forget
returns-else-forget g c = λ sent. record {
  bytes = c.args.string.now;
  spells = record { utf8 = c.utf8.string; text_is = refl };
  answer = false;
  leaves = c.if-forget.ensures;
  stays = record { index = refl; image = refl };
  sent = refl;
  told = refl;
}
