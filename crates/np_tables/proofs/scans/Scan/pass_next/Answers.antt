use Rattle.std.proofs.Common.{arith, sym, ◌∙◌}
use Rattle.std.proofs.lemmas.Bool.{ltb-true}
use Rattle.np_tables.proofs.ScanLemmas.{goes-ascii}
use Rattle.np_tables.proofs.scans.Scan.pass_next.Goals as goal

pub returns-then-is_ascii-clause-goes_on : goal.returns-then-is_ascii-clause-goes_on
returns-then-is_ascii-clause-goes_on c =
    goes-ascii c.args.self.now c.args.text.now c.args.low c.in_ok-first.first.c c.in_ok-first.first.rest.now c.behind_ascii.result.now c.if-self.true c.requires (omega arith)
    (ltb-true c.in_ok-first.first.c 128 (sym c.is_ascii.ensures ∙ c.if-is_ascii.true)) c.in_ok-first.ensures.parts c.behind_ascii.ensures
