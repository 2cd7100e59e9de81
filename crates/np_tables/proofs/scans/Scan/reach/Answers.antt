use Rattle.std.proofs.Common.{◌≤◌, drop, length, arith}
use Rattle.np_tables.proofs.Words.{IsUtf8-drop}
use Rattle.np_tables.proofs.LeftLemmas.{inside_boundary, yes_reach}
use Rattle.np_tables.proofs.ScanLemmas.{goes-at, goes-none}
use Rattle.np_tables.proofs.scans.Scan.reach.Goals as goal

pub returns-clause-goes_on : goal.returns-clause-goes_on
returns-clause-goes_on c =
    let s = c.args.self.now in
    let text = c.args.text.now in
    let reached = c.args.reached in
    let end = c.ceil_char_boundary-end.result in
    let cut = c.ceil_char_boundary-end.ensures in
    let utf8 = IsUtf8-drop text reached.end c.utf8.text c.requires.end in
    let within : c.max.result ≤ length text = omega (arith, c.max.ensures, c.requires.end.0, c.requires.from) in
    let behind = cut.bound within in
    let starters = yes_reach s text c.requires.ascii reached.end c.args.from end c.requires.starters
    (λ k ge from lt. inside_boundary text k (omega (arith, lt, cut.boundary.0)) (cut.nearest k (omega (arith, c.max.ensures, ge, from)) lt)) in
    goes-at s (omega arith) text (drop reached.end text) reached.end end reached.low reached.low c.low_at.result (omega (arith, behind, c.max.ensures)) cut.boundary.0 starters
    c.low_at.ensures.least c.low_at.ensures.starters c.low_at.ensures.same (IsUtf8-drop text end c.utf8.text cut.boundary) (goes-none s (drop reached.end text) reached.low c.requires.low utf8)
