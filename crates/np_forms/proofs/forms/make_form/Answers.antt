use Rattle.std.proofs.Common.{IsUtf8, ◌++◌, ap, chars, encode_utf8_all, refl, sym, subst, ◌∙◌}
use Rattle.np_forms.proofs.Words.{eqb-true, normal_form}
use Rattle.np_forms.proofs.CopyLemmas.{IsCopied-own}
use Rattle.np_forms.proofs.WrittenLemmas.{made_form}
use Rattle.np_forms.proofs.forms.make_form.Goals as goal

pub returns-then-is_empty-clause-normal : goal.returns-then-is_empty-clause-normal
returns-then-is_empty-clause-normal g c =
    let none = eqb-true _ _ (sym c.is_empty.ensures ∙ c.if-is_empty.true) in
    made_form _ c.meets_conditions.ensures c.args.wanted _ _ c.utf8.text (IsCopied-own _ _ _ _ _ c.split_quick_span-cut.ensures.copied none)

pub returns-in-Ok-clause-normal : goal.returns-in-Ok-clause-normal
returns-in-Ok-clause-normal g c =
    let made = normal_form (g.T.NormTable.model c.args.table.now) c.args.wanted (chars c.args.text.now) in
    let bytes = c.in-Ok.ensures.form (c.in-Ok.ensures.always refl) ∙ ap (λ l. l ++ encode_utf8_all made) c.in_ok-begin.ensures in
    made_form _ c.meets_conditions.ensures c.args.wanted _ _ (subst IsUtf8 c.as_text-made.ensures c.as_text-made.utf8) bytes
