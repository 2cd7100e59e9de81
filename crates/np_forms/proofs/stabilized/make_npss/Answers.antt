use Rattle.std.proofs.Common.{IsUtf8, sym, subst, ◌∙◌}
use Rattle.np_forms.proofs.Words.{eqb-true}
use Rattle.np_forms.proofs.CopyLemmas.{IsCopied-own}
use Rattle.np_forms.proofs.WrittenLemmas.{made_form}
use Rattle.np_forms.proofs.stabilized.make_npss.Goals as goal

pub returns-then-is_empty-clause-normal : goal.returns-then-is_empty-clause-normal
returns-then-is_empty-clause-normal g c =
    let none = eqb-true _ _ (sym c.is_empty.ensures ∙ c.if-is_empty.true) in
    made_form _ c.meets_conditions.ensures c.args.wanted _ _ c.utf8.text (IsCopied-own _ _ _ _ _ c.split_quick_span-cut.ensures.copied none)

pub returns-in-Ok-clause-normal : goal.returns-in-Ok-clause-normal
returns-in-Ok-clause-normal g c =
    made_form _ c.meets_conditions.ensures c.args.wanted _ _ (subst IsUtf8 c.as_text-made.ensures c.as_text-made.utf8) c.in-Ok.ensures.bytes
