use Rattle.std.proofs.Common.{◌∙◌, ap, get_or, arith}
use Rattle.np_tables.proofs.Words.{property_place, no_properties}
use Rattle.np_tables.proofs.PageLemmas.{properties-read}
use Rattle.np_tables.proofs.page_table.PageTableNormTable.pair.Goals as goal

pub returns-then-properties_of-clause-none : goal.returns-then-properties_of-clause-none
returns-then-properties_of-clause-none c =
    let fields = c.self.inside in
    (properties-read c.args.self.now fields.version c.self.view_is fields.fulls fields.index.items fields.all_properties.items c.self.invariant.pages c.args.b (omega arith) c.properties_of.result
    (c.properties_of.ensures ∙ ap (λ w. get_or w (property_place c.deref.result.now c.args.b) no_properties) c.deref-2.ensures.value ∙ ap (λ i. get_or fields.all_properties.items (property_place i c.args.b) no_properties) c.deref.ensures.value)).never_second c.if-properties_of.true c.args.a

pub returns-clause-some : goal.returns-clause-some
returns-clause-some c = rw (← c.self.view_is) c.composite_of.ensures.some

pub returns-clause-none : goal.returns-clause-none
returns-clause-none c = rw (← c.self.view_is) c.composite_of.ensures.none
