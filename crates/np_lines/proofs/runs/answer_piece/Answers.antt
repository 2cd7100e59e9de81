use Rattle.std.proofs.lemmas.Result.{IfErr-weaker, on_ok_weaker}
use Rattle.np_code_points.specs.Watched.{device_of}
use Rattle.np_lines.specs.Answers.{IsAnswerBy}
use Rattle.np_lines.proofs.RunLemmas.{piece_answered, piece_cut}
use Rattle.np_lines.proofs.runs.answer_piece.Goals as goal

pub returns-clause-ok : goal.returns-clause-ok
returns-clause-ok g c =
    let w = c.write_out.ensures in
    on_ok_weaker c.write_out.result
    (piece_answered (IsAnswerBy (g.K.LineKeys.is_key c.args.keys.now) (g.K.LineKeys.version c.args.keys.now) c.args.end) c.args.end c.args.pending.now c.take_piece.new.self c.write_out.new.pending
    (g.W.Write.contents (device_of c.args.target.now)) (g.W.Write.contents (device_of c.write_out.new.target)) c.args.piece.now c.requires.nothing c.in-Ok.ensures w.line w.long w.told)
    w.ok

pub returns-clause-err : goal.returns-clause-err
returns-clause-err g c =
    IfErr-weaker c.write_out.result _ _
    (λ fault. piece_cut (IsAnswerBy (g.K.LineKeys.is_key c.args.keys.now) (g.K.LineKeys.version c.args.keys.now) c.args.end) c.args.end c.args.pending.now c.take_piece.new.self
    (g.W.Write.contents (device_of c.args.target.now)) (g.W.Write.contents (device_of c.write_out.new.target)) c.args.piece.now fault c.requires.nothing c.in-Ok.ensures)
    c.write_out.ensures.err
