use Rattle.std.proofs.Common.{get_or, subst, ap, ◌∙◌, arith}
use Rattle.np_tables.proofs.Words.{IfSome_then, IsSound, no_properties, property_place}
use Rattle.np_tables.proofs.PrecomputedFormLemmas.{is_precomputed, precomputed-read}
use Rattle.np_tables.proofs.page_table.PageTableNormTable.precomputed.Goals as goal

pub returns : goal.returns
returns c =
    let fields = c.self.inside in
    let properties = c.properties_of-slot.result in
    let read = c.properties_of-slot.ensures ∙ ap (λ w. get_or w (property_place c.deref.result.now c.args.c) no_properties) c.deref-2.ensures.value ∙ ap (λ i. get_or fields.all_properties.items (property_place i c.args.c) no_properties) c.deref.ensures.value in
    IfSome_then c.at.result c.at.ensures
    (λ kept front. is_precomputed c.args.self.now (subst IsSound c.self.view_is c.self.invariant.pages.sound) c.args.form c.args.c kept.bytes.now kept.count (precomputed-read c.args.self.now fields.version c.self.view_is fields.fulls fields.index.items fields.all_properties.items fields.precomputed c.self.invariant c.args.form c.args.c (omega arith) properties read kept.bytes.now kept.count front))
