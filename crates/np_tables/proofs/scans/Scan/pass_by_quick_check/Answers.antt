use Rattle.np_tables.proofs.ScanLemmas.{goes-both}
use Rattle.np_tables.proofs.scans.Scan.pass_by_quick_check.Goals as goal

pub returns-then-few : goal.returns-then-few
returns-then-few c = goes-both c.args.self.now _ _ _ _ _ _ c.scan.invariant c.pass_few-few.ensures.goes_on

pub scan-preserved : goal.scan-preserved
scan-preserved c = goes-both c.args.self.now _ _ _ _ _ _ (goes-both c.args.self.now _ _ _ _ _ _ c.scan.invariant c.pass_few-few.ensures.goes_on) c.pass_by_lead_bytes-passed.ensures
