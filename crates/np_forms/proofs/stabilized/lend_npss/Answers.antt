use Rattle.std.proofs.Common.{refl, sym, ◌∙◌}
use Rattle.np_forms.proofs.Words.{eqb-true, IsUtf8-string_bytes}
use Rattle.np_forms.proofs.CopyLemmas.{IsCopied-all, IsCopied-own}
use Rattle.np_forms.proofs.WrittenLemmas.{made_form}
use Rattle.np_forms.proofs.stabilized.lend_npss.Goals as goal

pub returns-then-not-is_empty-clause-normal : goal.returns-then-not-is_empty-clause-normal
returns-then-not-is_empty-clause-normal g c = made_form _ c.meets_conditions.ensures c.args.wanted _ _ (IsUtf8-string_bytes c.in_ok-key.key) c.in_ok-key.ensures.bytes

pub returns-then-not-is_empty-clause-assigned : goal.returns-then-not-is_empty-clause-assigned
returns-then-not-is_empty-clause-assigned g c = c.in_ok-key.ensures.assigned

pub returns-clause-normal : goal.returns-clause-normal
returns-clause-normal g c =
    let none = eqb-true _ _ (sym c.is_empty.ensures ∙ c.if-not-is_empty.false) in
    made_form _ c.meets_conditions.ensures c.args.wanted _ _ c.utf8.text (IsCopied-own _ _ _ _ _ c.split_quick_span-cut.ensures.copied none)

pub returns-clause-assigned : goal.returns-clause-assigned
returns-clause-assigned g c =
    let none = eqb-true _ _ (sym c.is_empty.ensures ∙ c.if-not-is_empty.false) in
    IsCopied-all _ _ _ _ _ c.split_quick_span-cut.ensures.copied none (c.split_quick_span-cut.ensures.assigned refl)
