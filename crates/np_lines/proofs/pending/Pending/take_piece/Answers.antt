use Rattle.std.proofs.Common.{◌++◌, sym, subst, ap, ◌∙◌}
use Rattle.std.proofs.lemmas.Result.{on_ok_weaker}
use Rattle.np_lines.specs.Answers.{IsAnswerBy}
use Rattle.np_lines.specs.inside.Steps.{Goes}
use Rattle.np_lines.proofs.StepLemmas.{goes-joined}
use Rattle.np_lines.proofs.pending.Pending.take_piece.Goals as goal

pub returns : goal.returns
returns g c =
    let Is = IsAnswerBy (g.K.LineKeys.is_key c.args.keys.now) (g.K.LineKeys.version c.args.keys.now) c.args.end in
    let end = c.args.end in
    let start = c.args.self.now in
    let begun = c.in_ok-lines.ensures in
    let text = c.cut_text.result.0.now in
    let rest = c.cut_text.result.1.now in
    on_ok_weaker c.take_bytes.result
    (λ last. subst (Goes Is end start c.take_bytes.new.self) (sym (begun.split ∙ ap (λ l. begun.front ++ l) c.cut_text.ensures))
    (goes-joined Is end start c.take_begun.new.self c.take_bytes.new.self begun.front (text ++ rest) begun.goes
    (goes-joined Is end c.take_begun.new.self c.take_text.new.self c.take_bytes.new.self text rest c.in_ok-take_text.ensures last)))
    c.take_bytes.ensures
