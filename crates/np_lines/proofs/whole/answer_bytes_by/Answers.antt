use Rattle.np_lines.specs.Answers.{IsAnswerBy}
use Rattle.np_lines.proofs.RunLemmas.{all_answered}
use Rattle.np_lines.proofs.whole.answer_bytes_by.Goals as goal

pub returns : goal.returns
returns g c =
    rw (c.into_answers.ensures.bytes, c.into_answers.ensures.refused)
    (all_answered (IsAnswerBy (g.K.LineKeys.is_key c.args.keys.now) (g.K.LineKeys.version c.args.keys.now) c.args.end) c.args.end c.new-pending.result c.take_all.new.pending c.finish.new.self c.args.bytes.now c.new-pending.ensures
    c.in_ok-take_all.ensures c.in_ok-finish.ensures)
