use Rattle.std.proofs.Common.{◌∷◌, length, ap, arith, length-append}
use Rattle.np_lines.specs.Answers.{IsAnswer}
use Rattle.np_lines.specs.Lines.{byte_of}
use Rattle.np_lines.proofs.PushedLemmas.{pushed-none}
use Rattle.np_lines.proofs.StableLemmas.{stable-line}
use Rattle.np_lines.proofs.stable.push_stable.Goals as goal

pub lines-init : goal.lines-init
lines-init c = (c.utf8.stable, λ v each. pushed-none (IsAnswer v c.args.wanted) c.args.wanted.end c.args.stable.now c.args.out.now.items)

pub lines-preserved : goal.lines-preserved
lines-preserved c =
    let kept = c.lines.invariant in
    let parts = c.in-Some.ensures in (
      parts.utf8.1,
      λ v each.
          stable-line v c.args.wanted c.args.stable.now c.lines.rest.now c.in-Some.line.now c.in-Some.behind.now c.args.out.now.items c.lines.out.items c.push_ended_key.new.out.items
          c.utf8.stable kept.0 parts.utf8.0 parts.cut parts.line c.if-line-gt-LIMIT.false c.in_ok-push_ended_key.ensures each (kept.1 v each),
    )

pub push_ended_key-requires : goal.push_ended_key-requires
push_ended_key-requires c = omega (arith, ap length c.in-Some.ensures.cut, length-append c.in-Some.line.now (byte_of c.args.wanted.end ∷ c.in-Some.behind.now))
