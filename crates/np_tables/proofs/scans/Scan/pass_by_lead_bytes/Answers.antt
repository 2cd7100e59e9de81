use Rattle.std.proofs.Common.{sym, subst, arith}
use Rattle.std.proofs.lemmas.Str.{IsCharBoundary-from_drop}
use Rattle.np_tables.proofs.Words.{ScansOn}
use Rattle.np_tables.proofs.ScanLemmas.{goes-both}
use Rattle.np_tables.proofs.scans.Scan.pass_by_lead_bytes.Goals as goal

-- where a scan has come to a character begins
pub pass_lanes-reached-requires-clause-end : goal.pass_lanes-reached-requires-clause-end
pass_lanes-reached-requires-clause-end c = IsCharBoundary-from_drop c.args.text.now c.lanes.reached.end c.lanes.invariant.end c.lanes.invariant.goes_on.utf8

pub range_from-requires : goal.range_from-requires
range_from-requires c = λ _. IsCharBoundary-from_drop c.args.text.now c.pass_lanes-reached.result.end c.pass_lanes-reached.ensures.within c.pass_lanes-reached.ensures.goes_on.utf8

pub returns-then-reached : goal.returns-then-reached
returns-then-reached c =
    subst (λ l. ScansOn c.args.self.now c.args.text.now c.args.low l c.pass_lanes-reached.result.low) (sym c.range_from.ensures.value)
    (goes-both c.args.self.now _ _ _ _ _ _ c.lanes.invariant.goes_on c.pass_lanes-reached.ensures.goes_on)

pub lanes-preserved : goal.lanes-preserved
lanes-preserved c =
    let passed = c.pass_lanes-reached.ensures in
    record {
      from = omega (arith, c.lanes-test.true);
      end = passed.within;
      goes_on = goes-both c.args.self.now _ _ _ _ _ _ c.lanes.invariant.goes_on passed.goes_on;
      starters = passed.starters c.if-reached.false;
      inside = passed.inside c.if-reached.false;
    }

pub reach-last-requires-clause-end : goal.reach-last-requires-clause-end
reach-last-requires-clause-end c = IsCharBoundary-from_drop c.args.text.now c.lanes.reached.end c.lanes.invariant.end c.lanes.invariant.goes_on.utf8

pub range_from-requires-2 : goal.range_from-requires-2
range_from-requires-2 c = λ _. IsCharBoundary-from_drop c.args.text.now c.reach-last.result.end c.reach-last.ensures.within c.reach-last.ensures.goes_on.utf8

pub returns : goal.returns
returns c =
    subst (λ l. ScansOn c.args.self.now c.args.text.now c.args.low l c.reach-last.result.low) (sym c.range_from-2.ensures.value)
    (goes-both c.args.self.now _ _ _ _ _ _ c.lanes.invariant.goes_on c.reach-last.ensures.goes_on)
