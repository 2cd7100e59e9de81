use Rattle.std.proofs.Common.{refl}
use Rattle.std.proofs.lemmas.Result.{IfOk-weaker}
use Rattle.np_lines.specs.Answers.{IsAnswerBy, IsAnswerWithinBy}
use Rattle.np_lines.specs.inside.Steps.{IsAnswerTo, IsTold}
use Rattle.np_lines.proofs.AnswerLemmas.{told_of_text}
use Rattle.np_lines.proofs.BegunLemmas.{told-whole}
use Rattle.np_lines.proofs.pending.Pending.push_text_line.Goals as goal

pub returns-clause-told : goal.returns-clause-told
returns-clause-told g c =
    let IsKeyOf = g.K.LineKeys.is_key c.args.keys.now in
    let v = g.K.LineKeys.version c.args.keys.now in
    let end = c.args.end in
    let Is = IsAnswerBy IsKeyOf v end in
    let old = c.args.self.now in
    let text = c.args.text.now in
    let new = c.push_text_answer.new.out.items in
    let none = c.has_begun.ensures.none c.if-has_begun.false in
    IfOk-weaker c.push_text_answer.result (IsTold (IsAnswerWithinBy IsKeyOf v end text) old.out.items new) (IsTold (IsAnswerTo Is old text) old.out.items new)
    (λ refused t. told-whole Is end old text old.out.items new refused none.0 none.1 (told_of_text IsKeyOf v end text text old.out.items new refused c.if-text-gt-LIMIT.false refl t)) c.push_text_answer.ensures
