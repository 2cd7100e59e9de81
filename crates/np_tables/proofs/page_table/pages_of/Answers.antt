use Rattle.std.proofs.Common.{◌∙◌, ◌++◌, ap, subst, length}
use Rattle.np_tables.proofs.Words.{AreAllRowProperties, paged_properties}
use Rattle.np_tables.proofs.PageLemmas.{pages-from}
use Rattle.np_tables.proofs.page_table.pages_of.Goals as goal

pub returns-clause-pages : goal.returns-clause-pages
returns-clause-pages c =
    let v = c.args.version.now in
    let fulls = c.in_ok-lent.lent.fulls in
    let slots = c.in_ok-lent.lent.slots.items in
    let rows = c.in_ok-rows.rows.items in
    let pages = c.pages-pages.result.now in
    let all_properties = subst (λ s. AreAllRowProperties v s c.in_ok-seconds.seconds.items (length v.entries) rows) c.deref.ensures.value
    (subst (λ t. AreAllRowProperties v c.deref.result.now t (length v.entries) rows) c.deref-2.ensures.value c.in_ok-rows.ensures) in
    let index = c.in_ok-extend_from_slice.ensures.items ∙ ap (λ l. l ++ c.deref-5.result.now) c.in_ok-index.ensures.items ∙ c.deref-5.ensures.value in
    let paged = c.in_ok-all_properties.ensures ∙ ap (λ r. paged_properties r c.deref-4.result.now) c.deref-3.ensures.value ∙ ap (paged_properties rows) c.deref-4.ensures.value in
    pages-from v c.meets_conditions.ensures fulls slots c.in_ok-lent.ensures _ c.in_ok-seconds.ensures rows all_properties pages.index.items pages.numbers.items _ _ c.pages-pages.ensures index paged
