use Rattle.std.proofs.Common.{[], refl}
use Rattle.std.proofs.lemmas.Result.{IfOk-weaker}
use Rattle.np_lines.specs.Answers.{IsAnswerBy}
use Rattle.np_lines.specs.inside.Steps.{HasTaken}
use Rattle.np_lines.proofs.PushedLemmas.{pushed-taken}
use Rattle.np_lines.proofs.StepLemmas.{goes-none}
use Rattle.np_lines.proofs.pending.Pending.take_quick.Goals as goal

pub returns-then-has_begun : goal.returns-then-has_begun
returns-then-has_begun g c =
    let Is = IsAnswerBy (g.K.LineKeys.is_key c.args.keys.now) (g.K.LineKeys.version c.args.keys.now) c.args.end in
    record { front = []; split = refl; goes = goes-none Is c.args.end c.args.self.now }

pub returns : goal.returns
returns g c =
    let Is = IsAnswerBy (g.K.LineKeys.is_key c.args.keys.now) (g.K.LineKeys.version c.args.keys.now) c.args.end in
    let old = c.args.self.now in
    let none = c.has_begun.ensures.none c.if-has_begun.false in
    IfOk-weaker c.push_lines.result _ (λ rest. HasTaken Is c.args.end old _ c.args.text.now rest.now)
    (λ rest pushed. pushed-taken Is c.args.end old _ c.args.text.now rest.now none.0 none.1 refl refl refl pushed) c.push_lines.ensures
