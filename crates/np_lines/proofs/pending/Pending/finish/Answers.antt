use Rattle.std.proofs.lemmas.Result.{on_ok_weaker}
use Rattle.np_lines.specs.Answers.{IsAnswerBy}
use Rattle.np_lines.proofs.StepLemmas.{finishes-some}
use Rattle.np_lines.proofs.pending.Pending.finish.Goals as goal

pub returns : goal.returns
returns g c =
    on_ok_weaker c.end_line.result (λ e. finishes-some (IsAnswerBy (g.K.LineKeys.is_key c.args.keys.now) (g.K.LineKeys.version c.args.keys.now) c.args.end) c.args.end c.args.self.now c.end_line.new.self (c.has_begun.ensures.some c.if-not-has_begun.false) e) c.end_line.ensures
