use Rattle.std.proofs.Common.{chars, refl, string_bytes, subst, sym, ◌∙◌}
use Rattle.np_forms.specs.Forms.{IsNormalForm}
use Rattle.np_forms.proofs.Words.{eqb-true, IsAssigned, IsUtf8-string_bytes}
use Rattle.np_forms.proofs.CopyLemmas.{IsCopied-all, IsCopied-own}
use Rattle.np_forms.proofs.WrittenLemmas.{made_form}
use Rattle.np_forms.proofs.stabilized.into_npss.Goals as goal

pub returns-then-is_empty-clause-normal : goal.returns-then-is_empty-clause-normal
returns-then-is_empty-clause-normal g c =
    let none = eqb-true _ _ (sym c.is_empty.ensures ∙ c.if-is_empty.true) in
    subst (λ b. IsNormalForm (g.T.NormTable.model c.args.table.now) c.args.wanted (chars b) (chars b)) c.as_str-whole.ensures.value
    (made_form _ c.meets_conditions.ensures c.args.wanted _ _ c.as_str-whole.utf8 (IsCopied-own _ _ _ _ _ c.split_quick_span-cut.ensures.copied none))

pub returns-then-is_empty-clause-assigned : goal.returns-then-is_empty-clause-assigned
returns-then-is_empty-clause-assigned g c =
    let none = eqb-true _ _ (sym c.is_empty.ensures ∙ c.if-is_empty.true) in
    subst (λ b. IsAssigned (g.T.NormTable.model c.args.table.now) (chars b)) c.as_str-whole.ensures.value
    (IsCopied-all _ _ _ _ _ c.split_quick_span-cut.ensures.copied none (c.split_quick_span-cut.ensures.assigned refl))

pub returns-clause-normal : goal.returns-clause-normal
returns-clause-normal g c =
    subst (λ b. IsNormalForm (g.T.NormTable.model c.args.table.now) c.args.wanted (chars b) (chars (string_bytes c.in_ok-key.key))) c.as_str-whole.ensures.value
    (made_form _ c.meets_conditions.ensures c.args.wanted _ _ (IsUtf8-string_bytes c.in_ok-key.key) c.in_ok-key.ensures.bytes)

pub returns-clause-assigned : goal.returns-clause-assigned
returns-clause-assigned g c = subst (λ b. IsAssigned (g.T.NormTable.model c.args.table.now) (chars b)) c.as_str-whole.ensures.value c.in_ok-key.ensures.assigned
