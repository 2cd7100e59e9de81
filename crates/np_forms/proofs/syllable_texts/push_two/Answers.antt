use Rattle.std.proofs.Common.{◌∷◌, [], refl}
use Rattle.std.proofs.lemmas.Bool.{and_from}
use Rattle.np_forms.proofs.SyllableTextLemmas.{middle-scalar, two_encoded}
use Rattle.np_forms.proofs.syllable_texts.push_two.Goals as goal

pub append_bytes-requires : goal.append_bytes-requires
append_bytes-requires c = (
  c.args.a ∷ c.args.b ∷ [],
  (
    and_from _ _ (middle-scalar c.args.a c.requires.first) (and_from _ _ (middle-scalar c.args.b c.requires.second) refl),
    two_encoded _ _ _ _ _ _ _ _ c.requires.first c.requires.second (c.lead_byte.ensures, c.middle_byte.ensures, c.last_byte.ensures)
        (c.lead_byte-2.ensures, c.middle_byte-2.ensures, c.last_byte-2.ensures),
  ),
)

pub returns : goal.returns
returns c =
    rw (two_encoded c.args.a c.args.b c.lead_byte.result c.middle_byte.result c.last_byte.result c.lead_byte-2.result c.middle_byte-2.result c.last_byte-2.result c.requires.first c.requires.second
    (c.lead_byte.ensures, c.middle_byte.ensures, c.last_byte.ensures) (c.lead_byte-2.ensures, c.middle_byte-2.ensures, c.last_byte-2.ensures)) c.append_bytes.ensures
