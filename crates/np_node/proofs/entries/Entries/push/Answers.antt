use Rattle.std.proofs.Common.{◌≡◌, List, ℕ, [], ◌∷◌, ◌++◌, string_bytes, ap, subst, ◌∙◌}
use Rattle.std.specs.Cow.{cow_str_bytes}
use Rattle.np_node.proofs.EntryLemmas.{shown-insert}
use Rattle.np_node.specs.Nodes.{IsKept}
use Rattle.np_node.specs.Strings.{Entry}
use Rattle.np_node.specs.inside.Shown.{key_beside, shown}
use Rattle.np_node.proofs.entries.Entries.push.Goals as goal

pub returns-clause-ok : goal.returns-clause-ok
returns-clause-ok c =
    let pairs = c.self.inside.map.entries in
    let name = c.in_ok-kept.ensures.ok in
    let key : key_beside (string_bytes c.in_ok-kept.kept) c.in_ok-other.other ≡ cow_str_bytes c.args.key = ap (λ (s : List ℕ). key_beside s c.in_ok-other.other) name ∙ c.in_ok-other.ensures in
    let absent : ¬ IsKept (shown pairs) (string_bytes c.in_ok-kept.kept) = λ kept. c.requires (subst (λ (es : List Entry). IsKept es c.args.string.now) c.self.view_is (subst (λ (s : List ℕ). IsKept (shown pairs) s) name kept)) in
    ap shown c.in_ok-insert.ensures.entries ∙ shown-insert pairs c.in_ok-kept.kept c.in_ok-other.other absent
    ∙ (λ i. c.self.view_is i ++ record { string = name i; key = key i } ∷ [])
