use Rattle.std.proofs.Common.{◌+◌, ◌-◌, refl, subst, arith}
use Rattle.std.proofs.lemmas.Nat.Bits.{bit_at-lt, bit_at_and}
use Rattle.np_tables.proofs.Words.{AreYes}
use Rattle.np_tables.proofs.LeftLemmas.{left-yes, yes_moved}
use Rattle.np_tables.proofs.scans.Scan.pass_starters.Goals as goal

pub doubtful-preserved : goal.doubtful-preserved
doubtful-preserved c =
    let s = c.args.self.now in
    let text = c.args.text.now in
    let left = c.doubtful.left in
    let lowest = c.lowest.ensures in
    let inv = c.doubtful.invariant in
    let starter = yes_moved s text (c.args.from + c.lowest.result) (subst (λ l. AreYes s l 0 1) c.range_from.ensures.value (c.if-not-begins_with_starter.ensures refl)) in
    record {
      lead_byte = λ k lt set. inv.lead_byte k lt (omega (arith, set, bit_at_and left (left - 1) k, bit_at-lt left k));
      left = λ end are. left-yes s text end c.args.from left (inv.left end are) (omega (arith, c.doubtful-test.true)) c.doubtful.auto.left-fits.fits c.lowest.result lowest.within lowest.set lowest.first starter;
    }
