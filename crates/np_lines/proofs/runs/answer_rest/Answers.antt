use Rattle.std.proofs.lemmas.Result.{err_from_is_err_and}
use Rattle.np_code_points.specs.Watched.{device_of}
use Rattle.np_lines.specs.Answers.{IsAnswerBy}
use Rattle.np_lines.proofs.RunLemmas.{rest_cut, rest_front}
use Rattle.np_lines.proofs.runs.answer_rest.Goals as goal

pub returns-in_err-write_out-clause-err : goal.returns-in_err-write_out-clause-err
returns-in_err-write_out-clause-err g c =
    let p = err_from_is_err_and c.from_residual.result c.from_residual.ensures.1 in
    rw (p.1, p.2)
    (rest_cut (IsAnswerBy (g.K.LineKeys.is_key c.args.keys.now) (g.K.LineKeys.version c.args.keys.now) c.args.end) c.args.end c.args.pending.now c.finish.new.self
    (g.W.Write.contents (device_of c.args.target.now)) (g.W.Write.contents (device_of c.write_out.new.target)) c.in_err-write_out.field-0.0 c.requires.nothing c.in-Ok.ensures c.in_err-write_out.ensures.err)

pub returns-in_default-flush_once-clause-err : goal.returns-in_default-flush_once-clause-err
returns-in_default-flush_once-clause-err g c =
    rest_front (IsAnswerBy (g.K.LineKeys.is_key c.args.keys.now) (g.K.LineKeys.version c.args.keys.now) c.args.end) c.args.end c.args.pending.now c.finish.new.self
    (g.W.Write.contents (device_of c.args.target.now)) (g.W.Write.contents (device_of c.write_out.new.target)) (g.W.Write.contents (device_of c.flush_once.new.target))
    c.requires.nothing c.in-Ok.ensures c.in_ok-write_out.ensures.ok.0 c.flush_once.ensures.bytes
