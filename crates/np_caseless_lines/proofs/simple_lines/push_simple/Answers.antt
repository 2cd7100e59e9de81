use Rattle.std.proofs.Common.{arith}
use Rattle.np_caseless.specs.Caseless.{IsCaseless}
use Rattle.np_lines.specs.Answers.{IsAnswerBy}
use Rattle.np_lines.proofs.PushedLemmas.{pushed-none}
use Rattle.np_caseless_lines.proofs.WindowLemmas.{left_boundary, more_answered}
use Rattle.np_caseless_lines.proofs.simple_lines.push_simple.Goals as goal

pub windows-init : goal.windows-init
windows-init g c =
    let v = c.args.folded.now in
    let Is = IsAnswerBy (IsCaseless v c.args.wanted.form) v.version c.args.wanted.end in
    (c.utf8.text, omega arith, pushed-none Is c.args.wanted.end c.args.text.now c.args.out.now.items)

pub range_from-rest-requires : goal.range_from-rest-requires
range_from-rest-requires g c = λ _.
    let cut = c.split_at in
    let n = c.floor_char_boundary in
    let answered = c.in_ok-answered in
    left_boundary c.args.folded.now c.args.wanted.form c.args.wanted.end c.windows.rest.now cut.result.0.now cut.result.1.now answered.answered.left.now
    c.windows.out.items c.push_window.new.out.items n.result cut.ensures.front cut.ensures.back answered.ensures.pushed c.windows.invariant.0
    n.ensures.boundary answered.ensures.utf8

pub windows-preserved-then-done-gt0 : goal.windows-preserved-then-done-gt0
windows-preserved-then-done-gt0 g c =
    let cut = c.split_at in
    let answered = c.in_ok-answered in
    let rest = c.range_from-rest in (
      rest.utf8,
      omega (arith, c.min-most.ensures),
      more_answered c.args.folded.now c.args.wanted.form c.args.wanted.end c.windows.rest.now cut.result.0.now cut.result.1.now answered.answered.left.now
          c.windows.out.items c.push_window.new.out.items c.floor_char_boundary.result cut.ensures.front cut.ensures.back answered.ensures.pushed
          c.args.text.now rest.result.now c.args.out.now.items rest.ensures.value c.windows.invariant.2,
    )

pub windows-preserved : goal.windows-preserved
windows-preserved g c =
    let cut = c.split_at in
    let answered = c.in_ok-answered in
    let rest = c.range_from-rest in (
      rest.utf8,
      omega arith,
      more_answered c.args.folded.now c.args.wanted.form c.args.wanted.end c.windows.rest.now cut.result.0.now cut.result.1.now answered.answered.left.now
          c.windows.out.items c.push_window.new.out.items c.floor_char_boundary.result cut.ensures.front cut.ensures.back answered.ensures.pushed
          c.args.text.now rest.result.now c.args.out.now.items rest.ensures.value c.windows.invariant.2,
    )

pub returns-then-is_over : goal.returns-then-is_over
returns-then-is_over g c =
    let cut = c.split_at in
    let answered = c.in_ok-answered in
    let rest = c.range_from-rest in
    more_answered c.args.folded.now c.args.wanted.form c.args.wanted.end c.windows.rest.now cut.result.0.now cut.result.1.now answered.answered.left.now
    c.windows.out.items c.push_window.new.out.items c.floor_char_boundary.result cut.ensures.front cut.ensures.back answered.ensures.pushed
    c.args.text.now rest.result.now c.args.out.now.items rest.ensures.value c.windows.invariant.2
