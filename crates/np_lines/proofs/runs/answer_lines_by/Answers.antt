use Rattle.std.proofs.Common.{ap}
use Rattle.np_code_points.specs.Watched.{device_of}
use Rattle.np_lines.specs.Answers.{IsAnswerBy}
use Rattle.np_lines.proofs.RunLemmas.{ends_rest, ends_same}
use Rattle.np_lines.proofs.runs.answer_lines_by.Goals as goal

pub returns-clause-ends : goal.returns-clause-ends
returns-clause-ends g c =
    let Is = IsAnswerBy (g.K.LineKeys.is_key c.args.keys.now) (g.K.LineKeys.version c.args.keys.now) c.args.end in
    let end = c.args.end in
    let i₀ = g.R.Read.remaining (device_of c.clear.new.self) in
    let i₁ = g.R.Read.remaining (device_of c.answer_pieces.new.source) in
    let o₀ = g.W.Write.contents (device_of c.clear-2.new.self) in
    let o₁ = g.W.Write.contents (device_of c.answer_pieces.new.target) in
    let o₂ = g.W.Write.contents (device_of c.answer_rest.new.target) in
    ends_same Is end (g.R.Read.remaining (device_of c.args.source.now)) i₀ i₁ (g.W.Write.contents (device_of c.args.target.now)) o₀ o₂ c.answer_rest.result
    (ap (λ d. g.R.Read.remaining d) c.clear.ensures.device) (ap (λ d. g.W.Write.contents d) c.clear-2.ensures.device)
    (ends_rest Is end i₀ i₁ o₀ o₁ o₂ c.answer_pieces.new.pending c.answer_rest.result c.in_ok-answer_pieces.ensures.ok c.in_ok-answer_pieces.ensures.end c.answer_rest.ensures.ok c.answer_rest.ensures.err)
