use Rattle.np_forms.proofs.Words.{IsUtf8-string_bytes}
use Rattle.np_forms.proofs.WrittenLemmas.{made_form}
use Rattle.np_forms.proofs.forms.form.Goals as goal

pub returns : goal.returns
returns g c = record { normal = made_form _ c.meets_conditions.ensures c.args.form _ _ (IsUtf8-string_bytes c.in_ok-made.made) c.in_ok-made.ensures }
