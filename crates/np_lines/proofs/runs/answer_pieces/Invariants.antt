use Rattle.std.proofs.Common.{◌≡◌, ◌-◌, false, length, vec_len}
use Rattle.np_code_points.specs.Watched.{device_of, has_failed}
use Rattle.np_lines.specs.Answers.{IsAnswerBy}
use Rattle.np_lines.specs.inside.Steps.{IsBetweenReads}
use Rattle.np_lines.proofs.RunLemmas.{ends_of}
use Rattle.np_lines.proofs.runs.answer_pieces.Given as goal

abbrev pub invariant-pieces : goal.invariant-pieces
invariant-pieces g l = record {
  between : IsBetweenReads (IsAnswerBy (g.K.LineKeys.is_key l.keys) (g.K.LineKeys.version l.keys) l.end) l.end (ends_of (g.R.Read.remaining (device_of l.fn.source)) (g.R.Read.remaining (device_of l.source)) (g.W.Write.contents (device_of l.fn.target)) (g.W.Write.contents (device_of l.target))) l.pending;
  reads : has_failed l.source ≡ false;
  writes : has_failed l.target ≡ false;
  space : vec_len l.piece ≡ 65536;
  size : l.total ≡ length between.came;
}

abbrev pub decreases-pieces : goal.decreases-pieces
decreases-pieces g l = 18446744073709551616 - l.total
