use Rattle.std.proofs.Common.{◌∷◌, [], length, ap, refl, arith, length-append}
use Rattle.std.proofs.lemmas.Result.{on_ok_weaker}
use Rattle.np_lines.specs.Answers.{IsAnswerBy}
use Rattle.np_lines.specs.Lines.{byte_of}
use Rattle.np_lines.proofs.BegunLemmas.{cut_last, cut_some, taken-last, taken-line}
use Rattle.np_lines.proofs.StepLemmas.{goes-none}
use Rattle.np_lines.proofs.pending.Pending.take_bytes.Goals as goal

pub lines-init : goal.lines-init
lines-init g c = record { front = []; split = refl; goes = goes-none (IsAnswerBy (g.K.LineKeys.is_key c.args.keys.now) (g.K.LineKeys.version c.args.keys.now) c.args.end) c.args.end c.args.self.now }

pub returns-in_default : goal.returns-in_default
returns-in_default g c =
    let Is = IsAnswerBy (g.K.LineKeys.is_key c.args.keys.now) (g.K.LineKeys.version c.args.keys.now) c.args.end in
    let end = c.args.end in
    let last = cut_last end c.lines.rest.now c.cut.result.0.now c.byte.result c.cut.result.1 c.byte.ensures c.cut.ensures.before c.cut.ensures.after c.in_default.is in
    on_ok_weaker c.go_on.result
    (λ begun. taken-last Is end c.args.self.now c.lines.self c.go_on.new.self c.args.bytes.now c.lines.rest.now c.cut.result.0.now c.lines.invariant last.0 last.1 c.go_on.ensures.out c.go_on.ensures.told begun)
    c.go_on.ensures.begun

pub lines-smaller : goal.lines-smaller
lines-smaller g c =
    let end = c.args.end in
    let some = cut_some end c.lines.rest.now c.cut.result.0.now c.byte.result c.cut.result.1 c.in-Some.behind c.byte.ensures c.cut.ensures.before c.cut.ensures.after c.in-Some.is in
    let sizes = ap length some.0 in
    omega (arith, length-append c.cut.result.0.now (byte_of end ∷ c.in-Some.behind.now))

pub lines-preserved : goal.lines-preserved
lines-preserved g c =
    let Is = IsAnswerBy (g.K.LineKeys.is_key c.args.keys.now) (g.K.LineKeys.version c.args.keys.now) c.args.end in
    let end = c.args.end in
    let some = cut_some end c.lines.rest.now c.cut.result.0.now c.byte.result c.cut.result.1 c.in-Some.behind c.byte.ensures c.cut.ensures.before c.cut.ensures.after c.in-Some.is in
    taken-line Is end c.args.self.now c.lines.self c.end_line.new.self c.args.bytes.now c.lines.rest.now c.cut.result.0.now c.in-Some.behind.now c.lines.invariant some.0 some.1 c.in_ok-end_line.ensures
