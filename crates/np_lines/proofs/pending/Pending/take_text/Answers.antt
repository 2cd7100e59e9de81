use Rattle.std.proofs.Common.{sym, subst}
use Rattle.std.proofs.lemmas.Result.{on_ok_weaker}
use Rattle.np_lines.specs.Answers.{IsAnswerBy}
use Rattle.np_lines.specs.inside.Steps.{Goes}
use Rattle.np_lines.proofs.StepLemmas.{goes-joined}
use Rattle.np_lines.proofs.pending.Pending.take_text.Goals as goal

pub returns : goal.returns
returns g c =
    let Is = IsAnswerBy (g.K.LineKeys.is_key c.args.keys.now) (g.K.LineKeys.version c.args.keys.now) c.args.end in
    let end = c.args.end in
    let start = c.args.self.now in
    let taken = c.in_ok-rest.ensures in
    on_ok_weaker c.take_lines.result
    (λ rest. subst (Goes Is end start c.take_lines.new.self) (sym taken.split) (goes-joined Is end start c.take_quick.new.self c.take_lines.new.self taken.front c.in_ok-rest.rest.now taken.goes rest))
    c.take_lines.ensures
