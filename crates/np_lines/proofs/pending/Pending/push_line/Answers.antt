use Rattle.std.proofs.Common.{subst}
use Rattle.std.proofs.lemmas.Result.{IfOk-weaker}
use Rattle.np_lines.specs.Answers.{IsAnswerBy}
use Rattle.np_lines.specs.inside.Steps.{IsAnswerTo, IsTold}
use Rattle.np_lines.proofs.BegunLemmas.{told-kept, told-whole}
use Rattle.np_lines.proofs.pending.Pending.push_line.Goals as goal

pub returns-then-not-has_begun-clause-told : goal.returns-then-not-has_begun-clause-told
returns-then-not-has_begun-clause-told g c =
    let IsKeyOf = g.K.LineKeys.is_key c.args.keys.now in
    let v = g.K.LineKeys.version c.args.keys.now in
    let end = c.args.end in
    let Is = IsAnswerBy IsKeyOf v end in
    let old = c.args.self.now in
    let none = c.has_begun.ensures.none c.if-not-has_begun.true in
    IfOk-weaker c.push_answer.result (IsTold (Is c.args.bytes.now) old.out.items c.push_answer.new.out.items)
    (IsTold (IsAnswerTo Is old c.args.bytes.now) old.out.items c.push_answer.new.out.items)
    (λ refused t. told-whole Is end old c.args.bytes.now old.out.items c.push_answer.new.out.items refused none.0 none.1 t) c.push_answer.ensures

pub returns-clause-told : goal.returns-clause-told
returns-clause-told g c =
    let IsKeyOf = g.K.LineKeys.is_key c.args.keys.now in
    let v = g.K.LineKeys.version c.args.keys.now in
    let end = c.args.end in
    let Is = IsAnswerBy IsKeyOf v end in
    let old = c.args.self.now in
    let mid = c.go_on.new.self in
    let new = c.push_answer-2.new.out.items in
    IfOk-weaker c.push_answer-2.result (IsTold (Is c.deref.result.now) mid.out.items new)
    (IsTold (IsAnswerTo Is old c.args.bytes.now) old.out.items new)
    (λ refused t.
    told-kept Is end old mid c.args.bytes.now old.out.items new refused c.in_ok-go_on.ensures.begun c.if-self.false
    (subst (λ l. IsTold (Is mid.line.items) l new refused) c.go_on.ensures.out
    (subst (λ l. IsTold (Is l) mid.out.items new refused) c.deref.ensures.value t)))
    c.push_answer-2.ensures
