use Rattle.std.proofs.Common.{List, map, rules, sym, ap, subst, ◌∙◌}
use Rattle.std.proofs.lemmas.List.Sorted.{IsNonDecreasingBy-from_sort_by_key}
use Rattle.np_ucd.specs.declared.exclusions.Listing.{Listing}
use Rattle.np_ucd.specs.Listed.{is_listed}
use Rattle.np_ucd.proofs.SpanLemmas.{raised_rises, raised_lists_same, sorted_lists_same}
use Rattle.np_ucd.specs.inside.SpanValues.{span_of, AreRising}
use Rattle.np_ucd.proofs.exclusions.Exclusions.of_listings.Goals as goal

pub invariant_of-result : goal.invariant_of-result
invariant_of-result c =
    let sorted = IsNonDecreasingBy-from_sort_by_key (λ (l : Listing). l.first) c.sort_by_key.new.self.items c.in_ok-sort_by_key.ensures.sorted (λ a r q k. search rules) in
    subst (λ (items : List Listing). AreRising items) (sym c.raise_lasts.ensures) (raised_rises c.sort_by_key.new.self.items sorted)

pub returns : goal.returns
returns c = λ code.
    let sorted = IsNonDecreasingBy-from_sort_by_key (λ (l : Listing). l.first) c.sort_by_key.new.self.items c.in_ok-sort_by_key.ensures.sorted (λ a r q k. search rules) in
    ap (λ (items : List Listing). is_listed (map span_of items) code) c.raise_lasts.ensures
    ∙ raised_lists_same c.sort_by_key.new.self.items code sorted
    ∙ sorted_lists_same c.args.listings.items c.sort_by_key.new.self.items code c.in_ok-sort_by_key.ensures.permutation
