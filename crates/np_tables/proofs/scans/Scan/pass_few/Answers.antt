use Rattle.np_tables.proofs.ScanLemmas.{goes-both}
use Rattle.np_tables.proofs.scans.Scan.pass_few.Goals as goal

pub few-preserved : goal.few-preserved
few-preserved c = goes-both c.args.self.now _ _ _ _ _ _ c.few.invariant c.in-Some.ensures.goes_on
