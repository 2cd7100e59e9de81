use Rattle.np_tables.proofs.ScanLemmas.{goes-past}
use Rattle.np_tables.proofs.scans.Scan.pass_first.Goals as goal

pub returns-clause-goes_on : goal.returns-clause-goes_on
returns-clause-goes_on c = λ text utf8 parts. goes-past c.args.self.now text c.args.low c.args.first.c c.args.first.rest.now c.in_ok-next.next utf8 c.in_ok-next.ensures.least c.in_ok-next.ensures.passes parts
