use Rattle.std.proofs.Common.{◌++◌, encode_utf8, sym, ap, ◌∙◌}
use Rattle.np_forms.proofs.PrecomputedLemmas.{first-precomputed, precomputed-assigned}
use Rattle.np_forms.proofs.TextLemmas.{IsReadAssigned-next, IsReadAssigned-start}
use Rattle.np_forms.proofs.fronts.split_precomputed.Goals as goal

pub returns-clause-made : goal.returns-clause-made
returns-clause-made g c =
    let begins = sym c.chars-iter.ensures.rest ∙ c.in_ok-c.ensures.steps.0 ∙ ap (λ l. encode_utf8 c.in_ok-c.c ++ l) (sym c.as_str-later.ensures) in
    first-precomputed _ c.meets_conditions.ensures c.args.form c.args.text.now c.as_str-later.result.now c.in_ok-c.c c.utf8.text begins (c.begins_at_boundary.ensures c.if-not-begins_at_boundary.false) _ _ c.in_ok-kept.ensures

pub returns-clause-read : goal.returns-clause-read
returns-clause-read g c =
    let begins = sym c.chars-iter.ensures.rest ∙ c.in_ok-c.ensures.steps.0 ∙ ap (λ l. encode_utf8 c.in_ok-c.c ++ l) (sym c.as_str-later.ensures) in
    IsReadAssigned-next _ _ _ c.in_ok-c.c c.as_str-later.result.now (IsReadAssigned-start _ _ c.utf8.text) begins (precomputed-assigned _ c.meets_conditions.ensures c.args.form c.in_ok-c.c _ _ c.in_ok-kept.ensures)
