use Rattle.std.proofs.Common.{List, ℕ, Contains, sym, ap, subst, ◌∙◌}
use Rattle.np_node.proofs.EntryLemmas.{lookup_key-some, lookup-some, lookup-none}
use Rattle.np_node.specs.Nodes.{IsKept}
use Rattle.np_node.specs.Strings.{Entry}
use Rattle.np_node.specs.inside.Shown.{key_beside, shown}
use Rattle.np_node.proofs.entries.Entries.key_of.Goals as goal

pub returns-in-Some-clause-some : goal.returns-in-Some-clause-some
returns-in-Some-clause-some c =
    let bs = c.args.string.now in
    let pairs = c.self.inside.map.entries in
    let found = lookup-some bs pairs c.in-Some.other.now (sym c.in-Some.ensures.value) in
    let named = lookup_key-some bs pairs c.in-Some.kept.now (sym c.in-Some.ensures.key) in
    let key = sym (ap (λ (s : List ℕ). key_beside s c.in-Some.other.now) named) ∙ sym c.key_of.ensures in
    subst (λ (es : List Entry). Contains es (record { string = bs; key = c.key_of.result.now })) c.self.view_is
    (subst (λ (k : List ℕ). Contains (shown pairs) (record { string = bs; key = k })) key found)

pub returns-in-None-clause-none : goal.returns-in-None-clause-none
returns-in-None-clause-none c =
    subst (λ (es : List Entry). ¬ IsKept es c.args.string.now) c.self.view_is (lookup-none c.args.string.now c.self.inside.map.entries (sym c.in-None.ensures.value))
