use Rattle.std.proofs.Common.{[], length, refl, sym, ap, subst, arith, length-append}
use Rattle.std.proofs.lemmas.Result.{on_ok_weaker}
use Rattle.np_code_points.specs.Lines.{HasNo}
use Rattle.np_lines.specs.Answers.{IsAnswerBy}
use Rattle.np_lines.specs.Lines.{byte_of}
use Rattle.np_lines.proofs.BegunLemmas.{taken-last, taken-line, taken-more}
use Rattle.np_lines.proofs.StepLemmas.{goes-none}
use Rattle.np_lines.proofs.pending.Pending.take_lines.Goals as goal

pub lines-init : goal.lines-init
lines-init g c = (c.utf8.text, record { front = []; split = refl; goes = goes-none (IsAnswerBy (g.K.LineKeys.is_key c.args.keys.now) (g.K.LineKeys.version c.args.keys.now) c.args.end) c.args.end c.args.self.now })

pub returns-in_default : goal.returns-in_default
returns-in_default g c =
    let Is = IsAnswerBy (g.K.LineKeys.is_key c.args.keys.now) (g.K.LineKeys.version c.args.keys.now) c.args.end in
    let end = c.args.end in
    let mid = c.take_front.new.self in
    let text = c.args.text.now in
    let left = c.in_ok-left.left.now in
    let taken = taken-more Is end c.args.self.now c.lines.self mid text c.lines.rest.now left c.lines.invariant.1 c.in_ok-left.ensures in
    on_ok_weaker c.go_on.result
    (λ begun. taken-last Is end c.args.self.now mid c.go_on.new.self text left c.as_bytes.result.now taken (sym c.as_bytes.ensures.value) (subst (HasNo (byte_of end)) (sym c.as_bytes.ensures.value) c.in_default.ensures.none) c.go_on.ensures.out c.go_on.ensures.told begun)
    c.go_on.ensures.begun

pub lines-smaller : goal.lines-smaller
lines-smaller g c =
    let taken = c.in_ok-left.ensures in
    omega (arith, ap length taken.split, length-append taken.front c.in_ok-left.left.now, c.in-Some.ensures.shorter)

pub lines-preserved : goal.lines-preserved
lines-preserved g c =
    let Is = IsAnswerBy (g.K.LineKeys.is_key c.args.keys.now) (g.K.LineKeys.version c.args.keys.now) c.args.end in
    let end = c.args.end in
    let start = c.args.self.now in
    let mid = c.take_front.new.self in
    let text = c.args.text.now in
    let left = c.in_ok-left.left.now in
    let parts = c.in-Some.ensures in
    let taken = taken-more Is end start c.lines.self mid text c.lines.rest.now left c.lines.invariant.1 c.in_ok-left.ensures in
    (parts.utf8.1, taken-line Is end start mid c.end_text_line.new.self text left c.in-Some.line.now c.in-Some.behind.now taken parts.cut parts.line c.in_ok-end_text_line.ensures)
