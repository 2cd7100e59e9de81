use Rattle.std.proofs.Common.{Some, None, ap, refl, sym}
use Rattle.np_world.specs.Told.{comparing_reply}
use Rattle.np_world.proofs.node_steps.ask.Goals as goal

pub returns-in-None : goal.returns-in-None
returns-in-None g c = λ sent. record {
  first = c.args.left.now;
  second = c.args.right.now;
  spells_left = record { utf8 = c.utf8.left; text_is = refl };
  spells_right = record { utf8 = c.utf8.right; text_is = refl };
  answer = None;
  answers = c.in-None.ensures;
  same = refl;
  told = refl;
}

pub returns-in-Some-true : goal.returns-in-Some-true
returns-in-Some-true g c = λ sent. record {
  first = c.args.left.now;
  second = c.args.right.now;
  spells_left = record { utf8 = c.utf8.left; text_is = refl };
  spells_right = record { utf8 = c.utf8.right; text_is = refl };
  answer = Some c.in-Some-true.field-0;
  answers = c.in-Some-true.ensures;
  same = refl;
  told = ap (λ b. comparing_reply (Some b)) (sym c.in-Some-true.field-0-test);
}

pub returns-in-Some-false : goal.returns-in-Some-false
returns-in-Some-false g c = λ sent. record {
  first = c.args.left.now;
  second = c.args.right.now;
  spells_left = record { utf8 = c.utf8.left; text_is = refl };
  spells_right = record { utf8 = c.utf8.right; text_is = refl };
  answer = Some c.in-Some-false.field-0;
  answers = c.in-Some-false.ensures;
  same = refl;
  told = ap (λ b. comparing_reply (Some b)) (sym c.in-Some-false.field-0-test);
}
