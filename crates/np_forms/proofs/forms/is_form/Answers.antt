use Rattle.std.proofs.Common.{◌≡◌, ◌↔◌, IsTrue, chars, subst}
use Rattle.np_forms.proofs.Words.{IfOk-weaker, IsNormalForm, form_bytes}
use Rattle.np_forms.proofs.PieceLemmas.{own_form}
use Rattle.np_forms.proofs.forms.is_form.Goals as goal

pub returns : goal.returns
returns g c =
    let v = g.T.NormTable.model c.args.table.now in
    IfOk-weaker c.has_form.result _ (λ b. IsTrue b ↔ IsNormalForm v c.args.wanted (chars c.args.text.now) (chars c.args.text.now))
    (λ b same. own_form v c.args.wanted c.meets_conditions.ensures c.args.text.now b c.utf8.text (subst (λ l. IsTrue b ↔ (form_bytes v c.args.wanted c.args.text.now ≡ l)) c.as_bytes.ensures.value same))
    c.has_form.ensures
