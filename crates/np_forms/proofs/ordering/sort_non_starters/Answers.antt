use Rattle.std.proofs.Common.{rules, subst}
use Rattle.std.proofs.lemmas.Fn.{always_returns_same}
use Rattle.std.proofs.lemmas.List.Sorted.{IsNonDecreasingBy-from_sort}
use Rattle.np_forms.proofs.Words.{on_ok_weaker, CodeAndClass}
use Rattle.std.specs.List.Sorted.{IsStableByKey}
use Rattle.std.specs.Ordering.{nat_cmp}
use Rattle.np_forms.proofs.SortLemmas.{canonical_order-from_sort}
use Rattle.np_forms.proofs.ordering.sort_non_starters.Goals as goal

pub returns-clause-ok : goal.returns-clause-ok
returns-clause-ok c =
    let class = λ (x : CodeAndClass). x.class in
    let keys = always_returns_same _ _ _ (λ a r next called. search rules) in
    let stable = c.sort_by_key.ensures.stable class keys in
    on_ok_weaker c.sort_by_key.result
    (λ sorted v cs non_starters is.
    canonical_order-from_sort v cs _ non_starters (IsNonDecreasingBy-from_sort class _ (sorted class keys)) (subst (λ l. IsStableByKey class nat_cmp l c.sort_by_key.new.self) is stable))
    c.sort_by_key.ensures.sorted
