use Rattle.std.proofs.Common.{chars, sym, subst}
use Rattle.std.proofs.lemmas.Result.{IfOk-weaker}
use Rattle.std.proofs.lemmas.Str.{encodes-chars}
use Rattle.np_lines.specs.Answers.{IsAnswerWithinBy, IsKeyBy, IsToldKey}
use Rattle.np_lines.specs.inside.Steps.{IsTold}
use Rattle.np_lines.proofs.AnswerLemmas.{told_of_key}
use Rattle.np_lines.proofs.answers.push_text_answer.Goals as goal

pub returns-in-Ok : goal.returns-in-Ok
returns-in-Ok g c =
    let IsKeyOf = g.K.LineKeys.is_key c.args.keys.now in
    let v = g.K.LineKeys.version c.args.keys.now in
    let end = c.args.end in
    let text = c.args.text.now in
    let key = c.as_str.result.now in
    let is : IsKeyBy IsKeyOf v text key = record {
      valid = c.utf8.text;
      assigned = c.in-Ok.ensures.assigned;
      list = chars key;
      is = subst (λ l. IsKeyOf (chars text) (chars l)) (sym c.as_str.ensures.value) c.in-Ok.ensures.key;
      key_is = sym (encodes-chars key c.as_str.utf8);
    } in
    IfOk-weaker c.push_told_key.result (IsTold (IsToldKey end key) c.args.out.now.items c.push_told_key.new.out.items)
    (IsTold (IsAnswerWithinBy IsKeyOf v end text) c.args.out.now.items c.push_told_key.new.out.items)
    (λ refused t. told_of_key IsKeyOf v end text key c.args.out.now.items c.push_told_key.new.out.items refused is t) c.push_told_key.ensures
