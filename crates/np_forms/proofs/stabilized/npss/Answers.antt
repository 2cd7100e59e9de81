use Rattle.np_forms.proofs.Words.{IsUtf8-string_bytes}
use Rattle.np_forms.proofs.WrittenLemmas.{made_form}
use Rattle.np_forms.proofs.stabilized.npss.Goals as goal

pub returns-clause-normal : goal.returns-clause-normal
returns-clause-normal g c = made_form _ c.meets_conditions.ensures c.args.wanted _ _ (IsUtf8-string_bytes c.in_ok-key.key) c.in_ok-key.ensures.bytes
