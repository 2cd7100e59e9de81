use Rattle.std.proofs.Common.{◌≡◌, ◌∷◌, [], ◌++◌, sym, subst, ap, ◌∙◌}
use Rattle.np_versions.proofs.MappingLemmas.{IsFullDecomposition-full_of}
use Rattle.np_forms.proofs.OrderLemmas.{codes-with_classes}
use Rattle.np_forms.proofs.Words.{IsFullDecomposition, codes_of, full_of, with_classes}
use Rattle.np_forms.proofs.decompositions.full_decomposition.Goals as goal

pub returns : goal.returns
returns g c =
    let v = g.T.NormTable.model c.args.table.now in
    let full = full_of v c.args.compat c.args.c in
    let list : c.deref.result.now ≡ with_classes v full = c.deref.ensures.value ∙ c.in_ok-append.ensures ∙ ap (λ l. l ++ with_classes v full) c.new-list.ensures.items in
    let made : c.push_codes.new.codes.items ≡ full =
    c.in_ok-push_codes.ensures.ok ∙ ap (λ l. l ++ codes_of c.deref.result.now) c.new-made.ensures.items ∙ ap codes_of list ∙ codes-with_classes v full in
    subst (IsFullDecomposition v c.args.compat (c.args.c ∷ [])) (sym made) (IsFullDecomposition-full_of v c.args.compat c.meets_conditions.ensures.shallow c.args.c)
