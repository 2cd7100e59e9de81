use Rattle.std.proofs.Common.{◌≡◌, ◌∙◌, [], sym, ap, subst, get_or, arith}
use Rattle.np_tables.proofs.Words.{IsSound, of_kind, property_place, no_properties}
use Rattle.np_versions.proofs.TableLemmas.{lent-by_value}
use Rattle.np_tables.proofs.PageLemmas.{properties-read}
use Rattle.np_tables.proofs.page_table.PageTableNormTable.full.Goals as goal

pub returns : goal.returns
returns c =
    let fields = c.self.inside in
    let lent : c.lent.result.now ≡ get_or (of_kind c.args.compat fields.fulls) c.properties_of-slot.result.fulls [] = c.lent.ensures in
    let properties = properties-read c.args.self.now fields.version c.self.view_is fields.fulls fields.index.items fields.all_properties.items c.self.invariant.pages c.args.c (omega arith) c.properties_of-slot.result
    (c.properties_of-slot.ensures ∙ ap (λ w. get_or w (property_place c.deref.result.now c.args.c) no_properties) c.deref-2.ensures.value ∙ ap (λ i. get_or fields.all_properties.items (property_place i c.args.c) no_properties) c.deref.ensures.value) in
    lent-by_value c.args.self.now c.args.compat c.args.c c.lent.result.now
    (subst IsSound c.self.view_is c.self.invariant.pages.sound) (lent ∙ properties.slot.lent c.args.compat)

pub returns-then-slot-eq0 : goal.returns-then-slot-eq0
returns-then-slot-eq0 c =
    let fields = c.self.inside in
    let empty = sym (ap (λ k. get_or (of_kind c.args.compat fields.fulls) k []) c.if-slot-eq0.true ∙ c.self.invariant.pages.none c.args.compat) in
    let properties = properties-read c.args.self.now fields.version c.self.view_is fields.fulls fields.index.items fields.all_properties.items c.self.invariant.pages c.args.c (omega arith) c.properties_of-slot.result
    (c.properties_of-slot.ensures ∙ ap (λ w. get_or w (property_place c.deref.result.now c.args.c) no_properties) c.deref-2.ensures.value ∙ ap (λ i. get_or fields.all_properties.items (property_place i c.args.c) no_properties) c.deref.ensures.value) in
    lent-by_value c.args.self.now c.args.compat c.args.c [] (subst IsSound c.self.view_is c.self.invariant.pages.sound) (empty ∙ properties.slot.lent c.args.compat)
