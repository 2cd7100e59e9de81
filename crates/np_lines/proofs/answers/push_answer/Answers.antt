use Rattle.std.proofs.Common.{ℕ, List, ◌++◌, arith, refl, ap, inl, inr, ◌∙◌}
use Rattle.std.proofs.lemmas.Bool.{false≢true}
use Rattle.std.proofs.lemmas.Result.{IfOk-weaker}
use Rattle.np_lines.specs.Answers.{IsAnswerBy, IsAnswerWithinBy, not_utf8, told_refusal}
use Rattle.np_lines.specs.inside.Steps.{IsTold}
use Rattle.np_lines.proofs.AnswerLemmas.{told_of_text}
use Rattle.np_lines.proofs.answers.push_answer.Goals as goal

pub returns-in-Ok : goal.returns-in-Ok
returns-in-Ok g c =
    let IsKeyOf = g.K.LineKeys.is_key c.args.keys.now in
    let v = g.K.LineKeys.version c.args.keys.now in
    let end = c.args.end in
    let out = c.push_text_answer.new.out.items in
    IfOk-weaker c.push_text_answer.result (IsTold (IsAnswerWithinBy IsKeyOf v end c.in-Ok.text.now) c.args.out.now.items out)
    (IsTold (IsAnswerBy IsKeyOf v end c.args.line.now) c.args.out.now.items out)
    (λ refused t. told_of_text IsKeyOf v end c.args.line.now c.in-Ok.text.now c.args.out.now.items out refused (omega arith) c.in-Ok.ensures.ok t) c.push_text_answer.ensures

pub returns-in_ok-push_refusal-in-Err : goal.returns-in_ok-push_refusal-in-Err
returns-in_ok-push_refusal-in-Err g c =
    let at = c.in-Err.fault.at in
    let why = c.as_str.ensures.value ∙ c.in_ok-why-in-Err.ensures in
    record {
      answer = told_refusal (not_utf8 at);
      is = inr (omega arith, inl (at, record { invalid = λ valid. false≢true (c.in-Err.ensures.valid.1 valid); longest = c.in-Err.ensures.place }, refl));
      out_is = c.in_ok-push_refusal-in-Err.ensures ∙ ap (λ (l : List ℕ). c.args.out.now.items ++ told_refusal l) why;
      told = refl;
    }
