use Rattle.std.proofs.Common.{◌+◌, ◌-◌, length, refl, arith}
use Rattle.np_caseless.specs.Caseless.{IsCaseless}
use Rattle.np_lines.specs.Answers.{IsAnswerBy}
use Rattle.np_lines.proofs.PushedLemmas.{pushed-none}
use Rattle.np_caseless_lines.proofs.LineLemmas.{line_answered}
use Rattle.np_caseless_lines.proofs.simple_lines.push_each.Goals as goal

pub lines-init : goal.lines-init
lines-init c = (
  c.utf8.front,
  omega arith,
  λ v form each. pushed-none (IsAnswerBy (IsCaseless v form) v.version c.args.end) c.args.end c.args.front.now c.args.out.now.items,
)

pub lines-preserved : goal.lines-preserved
lines-preserved c =
    let kept = c.lines.invariant in
    let parts = c.in-Some.ensures in
    let front = c.args.front.now in
    let rest = c.lines.rest.now in
    let line = c.in-Some.line.now in
    let place = length front - length rest in (
      parts.utf8.1,
      omega (arith, kept.1, parts.shorter),
      λ v form each.
          line_answered v form c.args.end front rest line c.in-Some.behind.now c.args.keys.now c.args.out.now.items c.lines.out.items c.push_key.new.out.items
          place (place + length line - place) c.utf8.front kept.0 parts.utf8.0 parts.cut parts.line c.requires.short refl (omega arith)
          c.in_ok-push_key.ensures each (kept.2 v form each),
    )
