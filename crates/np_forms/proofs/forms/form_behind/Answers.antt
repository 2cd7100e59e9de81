use Rattle.std.proofs.Common.{◌++◌, chars, encode_utf8_all, ap, refl, ◌∙◌}
use Rattle.np_forms.proofs.Words.{normal_form}
use Rattle.np_forms.proofs.forms.form_behind.Goals as goal

pub returns : goal.returns
returns g c =
    let v = g.T.NormTable.model c.args.normalizer.now.table.now in
    let made = normal_form v c.args.normalizer.now.form (chars c.args.text.now) in
    c.into_text.ensures ∙ c.in_ok-_all.ensures.form (c.in_ok-_all.ensures.always refl) ∙ ap (λ l. l ++ encode_utf8_all made) c.in_ok-out.ensures
