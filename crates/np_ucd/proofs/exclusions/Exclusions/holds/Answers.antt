use Rattle.std.proofs.Common.{◌-◌, List, get_or, rules, ap, sym, ◌∙◌}
use Rattle.np_ucd.specs.declared.exclusions.Listing.{Listing}
use Rattle.np_ucd.proofs.SpanLemmas.{begun_in_order, held, not_held, listed_as}
use Rattle.np_ucd.proofs.exclusions.Exclusions.holds.Goals as goal

pub returns-then-begun-gt0 : goal.returns-then-begun-gt0
returns-then-begun-gt0 c =
    let n = c.partition_point-begun.result in
    held c.args.code n c.index.result.now c.deref.result.now
    (begun_in_order c.args.code n c.deref.ensures.value c.self.invariant c.partition_point-begun.ensures.partitioned (λ a r q k. search rules))
    c.partition_point-begun.ensures.bound c.if-begun-gt0.true
    (c.index.ensures ∙ ap (λ (items : List Listing). get_or items (n - 1) c.index.result.now) (sym c.deref.ensures.value))
    ∙ listed_as c.args.code c.deref.ensures.value c.self.view_is

pub returns-else-begun-gt0 : goal.returns-else-begun-gt0
returns-else-begun-gt0 c =
    not_held c.args.code c.partition_point-begun.result c.deref.result.now
    (begun_in_order c.args.code c.partition_point-begun.result c.deref.ensures.value c.self.invariant c.partition_point-begun.ensures.partitioned (λ a r q k. search rules))
    c.partition_point-begun.ensures.bound c.if-begun-gt0.false
    ∙ listed_as c.args.code c.deref.ensures.value c.self.view_is
