use Rattle.std.proofs.Common.{le_antisymm, sym}
use Rattle.np_versions.proofs.SyllableLemmas.{settled_at}
use Rattle.np_versions.proofs.depths.final_marks.Goals as goal

pub returns-then-eq-clause-marks : goal.returns-then-eq-clause-marks
returns-then-eq-clause-marks c =
    settled_at c.args.characters.now c.bare_marks.ensures.rows c.loop-round.round c.in_ok-next.next.items c.loop-round.marks.items
    c.as_slice.result.now c.as_slice-then-round-ge-SYLLABLES_KNOWN.result.now c.if-round-ge-SYLLABLES_KNOWN.true c.loop-round-test.true
    c.in_ok-next.ensures c.loop-round.invariant c.as_slice.ensures.value c.as_slice-then-round-ge-SYLLABLES_KNOWN.ensures.value (sym c.if-eq.ensures)

pub returns-clause-marks : goal.returns-clause-marks
returns-clause-marks c = rw (le_antisymm c.loop-round.auto.round-end c.loop-round-test.false) at c.loop-round.invariant
