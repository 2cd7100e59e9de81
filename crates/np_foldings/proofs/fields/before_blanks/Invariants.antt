use Rattle.std.proofs.Common.{◌≡◌, ◌≤◌, take, length}
use Rattle.np_ucd.specs.inside.ExclusionReading.{before_blanks}
use Rattle.np_foldings.proofs.fields.before_blanks.Given as goal

abbrev pub invariant-loop-end : goal.invariant-loop-end
invariant-loop-end l = record {
  inside : l.end ≤ length l.text;
  same : before_blanks l.text ≡ before_blanks (take l.end l.text);
}

abbrev pub decreases-loop-end : goal.decreases-loop-end
decreases-loop-end l = l.end
