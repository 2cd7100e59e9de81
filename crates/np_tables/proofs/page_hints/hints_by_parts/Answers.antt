use Rattle.std.proofs.Common.{◌∙◌, ap, sym, subst, refl}
use Rattle.np_tables.proofs.Words.{class_of, IsNeverSecond, both_ways}
use Rattle.np_tables.proofs.PageLemmas.{hints-listed}
use Rattle.np_tables.proofs.page_hints.hints_by_parts.Goals as goal

pub returns : goal.returns
returns c = λ compat full.
    let v = c.args.version.now in
    let starter = ap (class_of v) (sym c.from-code.ensures) ∙ sym c.class_of.ensures ∙ c.if-class_of-ne0.false in
    hints-listed v compat c.args.own c.args.first c.args.rest.now full _
    (λ _. starter) (λ _. refl) (λ _. subst (IsNeverSecond v) c.from-code.ensures (c.is_never_second.ensures c.if-not-is_never_second.false)) (λ on. absurd (both_ways _ refl on))
    (λ _. refl) c.comes_back-yes_starter_composing.ensures.rises c.comes_back-yes_starter_composing.ensures.folds
