use Rattle.std.proofs.Common.{◌↔◌, IsTrue, chars, sym, ◌∙◌}
use Rattle.np_forms.proofs.Words.{IfOk-weaker, IsEquivalent}
use Rattle.np_forms.proofs.PieceLemmas.{IsEquivalent-same, IsEquivalent-forms}
use Rattle.np_forms.proofs.equivalence.equivalent.Goals as goal

pub returns-then-are_same : goal.returns-then-are_same
returns-then-are_same g c =
    IsEquivalent-same (g.T.NormTable.model c.args.table.now) c.meets_conditions.ensures c.args.compat c.args.left.now c.args.right.now (sym c.as_bytes.ensures.value ∙ c.are_same.ensures.0 c.if-are_same.true ∙ c.as_bytes-2.ensures.value)

pub returns : goal.returns
returns g c =
    let v = g.T.NormTable.model c.args.table.now in
    IfOk-weaker c.have_same_form.result _ (λ b. IsTrue b ↔ IsEquivalent v c.args.compat (chars c.args.left.now) (chars c.args.right.now))
    (λ b same. IsEquivalent-forms v c.meets_conditions.ensures c.decomposing_form.result c.args.compat c.args.left.now c.args.right.now b c.decomposing_form.ensures.kind c.decomposing_form.ensures.decomposes same)
    c.have_same_form.ensures
