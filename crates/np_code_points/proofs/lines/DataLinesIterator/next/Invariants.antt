use Rattle.std.proofs.Common.{◌≡◌, ◌<◌, ◌+◌, ◌^◌, length}
use Rattle.np_code_points.specs.inside.LineCuts.{walk_at}
use Rattle.np_code_points.proofs.lines.DataLinesIterator.next.Given as goal

abbrev pub invariant-loop-self : goal.invariant-loop-self
invariant-loop-self l = record {
  left : (walk_at l.self-inside.passed l.self-inside.rest.now).left ≡ (walk_at l.initial.self-inside.passed l.initial.self-inside.rest.now).left;
  total : (walk_at l.self-inside.passed l.self-inside.rest.now).total ≡ (walk_at l.initial.self-inside.passed l.initial.self-inside.rest.now).total;
  fits : l.self-inside.passed + length l.self-inside.rest.now < 2 ^ 64;
}

abbrev pub decreases-loop-self : goal.decreases-loop-self
decreases-loop-self l = length l.self-inside.rest.now
