use Rattle.std.proofs.Common.{drop, true≢false, sym, subst, ◌∙◌, arith}
use Rattle.np_tables.proofs.Words.{AreLeft, IsUtf8-drop}
use Rattle.np_tables.proofs.LeftLemmas.{left-lanes, left-none}
use Rattle.np_tables.proofs.ScanLemmas.{goes-none}
use Rattle.np_tables.proofs.scans.Scan.pass_lanes.Goals as goal

pub returns-then-doubtful-gt-MANY-clause-starters : goal.returns-then-doubtful-gt-MANY-clause-starters
returns-then-doubtful-gt-MANY-clause-starters c = λ on. absurd (true≢false (sym c.reach.ensures.ended ∙ on))

pub returns-then-doubtful-gt-MANY-clause-inside : goal.returns-then-doubtful-gt-MANY-clause-inside
returns-then-doubtful-gt-MANY-clause-inside c = λ on. absurd (true≢false (sym c.reach.ensures.ended ∙ on))

pub pass_starters-left-requires-clause-doubtful : goal.pass_starters-left-requires-clause-doubtful
pass_starters-left-requires-clause-doubtful c =
    (left-lanes c.args.self.now c.args.text.now c.requires.ascii c.args.reached.end c.args.from c.doubtful_in_lanes-doubtful.result c.requires.starters c.requires.inside c.args.row.now c.as_bytes.result.now c.requires.row c.as_bytes.ensures.value
    (omega (arith, c.as_bytes.ensures.len, c.requires.long)) c.doubtful_in_lanes-doubtful.ensures).lead_byte

pub returns-then-left-eq0-clause-goes_on : goal.returns-then-left-eq0-clause-goes_on
returns-then-left-eq0-clause-goes_on c =
    let text = c.args.text.now in
    let end = c.args.reached.end in
    goes-none c.args.self.now (drop end text) c.args.reached.low c.requires.low (IsUtf8-drop text end c.utf8.text c.requires.end)

pub returns-then-left-eq0-clause-starters : goal.returns-then-left-eq0-clause-starters
returns-then-left-eq0-clause-starters c = λ _.
    let end = c.args.reached.end in
    let mask = left-lanes c.args.self.now c.args.text.now c.requires.ascii c.args.reached.end c.args.from c.doubtful_in_lanes-doubtful.result c.requires.starters c.requires.inside c.args.row.now c.as_bytes.result.now c.requires.row c.as_bytes.ensures.value
    (omega (arith, c.as_bytes.ensures.len, c.requires.long)) c.doubtful_in_lanes-doubtful.ensures in
    left-none c.args.self.now c.args.text.now end c.args.from (subst (AreLeft c.args.self.now c.args.text.now end c.args.from) c.if-left-eq0.true (c.pass_starters-left.ensures end mask))

pub pass_doubtful-requires-clause-left : goal.pass_doubtful-requires-clause-left
pass_doubtful-requires-clause-left c =
    c.pass_starters-left.ensures c.args.reached.end
    (left-lanes c.args.self.now c.args.text.now c.requires.ascii c.args.reached.end c.args.from c.doubtful_in_lanes-doubtful.result c.requires.starters c.requires.inside c.args.row.now c.as_bytes.result.now c.requires.row c.as_bytes.ensures.value
    (omega (arith, c.as_bytes.ensures.len, c.requires.long)) c.doubtful_in_lanes-doubtful.ensures)
