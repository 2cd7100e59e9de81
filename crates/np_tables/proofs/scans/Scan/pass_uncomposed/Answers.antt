use Rattle.std.proofs.Common.{chars, sym, ◌∙◌, arith}
use Rattle.np_tables.proofs.QuickSpanLemmas.{passes_uncomposed}
use Rattle.np_tables.proofs.scans.Scan.pass_uncomposed.Goals as goal

pub returns-then-cannot_compose_after-clause-uncomposed : goal.returns-then-cannot_compose_after-clause-uncomposed
returns-then-cannot_compose_after-clause-uncomposed c =
    let lists = c.requires.pages.0 in
    let pages = c.requires.pages.1 in
    passes_uncomposed _ lists c.args.self.now.index.now c.args.self.now.all_properties.now pages c.args.self.now.form (chars c.args.front.now) _ c.args.c c.args.low c.in_ok-next.next c.in_ok-kept.ensures.scalar (omega arith)
    c.properties_of-before.result c.args.properties c.properties_of-before.ensures c.requires.properties c.if-properties-ne0.false c.if-not-properties.false (sym c.is_syllable.ensures ∙ c.if-is_syllable.false) c.in_ok-kept.ensures.last
    (c.cannot_compose_after.ensures c.if-cannot_compose_after.true) c.in_ok-next.ensures.order c.in_ok-next.ensures.class
