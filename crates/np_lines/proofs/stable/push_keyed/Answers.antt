use Rattle.std.proofs.Common.{◌∷◌, length, ap, arith, length-append}
use Rattle.np_lines.specs.Answers.{IsAnswer}
use Rattle.np_lines.specs.Lines.{byte_of}
use Rattle.np_lines.proofs.KeyedLemmas.{keyed-line}
use Rattle.np_lines.proofs.PushedLemmas.{pushed-none}
use Rattle.np_lines.proofs.StableLemmas.{pushed-line}
use Rattle.np_lines.proofs.stable.push_keyed.Goals as goal

pub lines-init : goal.lines-init
lines-init c = (c.utf8.lines, c.utf8.keys, λ v k. (pushed-none (IsAnswer v c.args.wanted) c.args.wanted.end c.args.lines.now c.args.out.now.items, k))

pub lines-preserved : goal.lines-preserved
lines-preserved c =
    let w = c.args.wanted in
    let kept = c.lines.invariant in
    let parts = c.in-Some.ensures in
    let made = c.in-Some-cut_line.ensures in
    let line = c.in-Some.line.now in
    let behind = c.in-Some.behind.now in
    let key = c.in-Some-cut_line.key.now in
    let later = c.in-Some-cut_line.later.now in (
      parts.utf8.1,
      made.utf8.1,
      λ v k.
          let both = kept.2 v k in
          let own = keyed-line v w c.lines.rest.now c.lines.forms.now line behind key later kept.0 kept.1 made.utf8.0 made.utf8.1 parts.cut parts.line made.cut made.line both.1 in (
            pushed-line v w c.args.lines.now c.lines.rest.now line behind key c.lines.forms.now later c.args.out.now.items c.lines.out.items c.push_ended_key.new.out.items
                parts.utf8.0 made.utf8.0 own.assigned own.normal c.if-line-gt-LIMIT.false parts.line made.line parts.cut made.cut c.in_ok-push_ended_key.ensures both.0,
            own.rest,
          ),
    )

pub push_ended_key-requires : goal.push_ended_key-requires
push_ended_key-requires c = omega (arith, ap length c.in-Some-cut_line.ensures.cut, length-append c.in-Some-cut_line.key.now (byte_of c.args.wanted.end ∷ c.in-Some-cut_line.later.now))
