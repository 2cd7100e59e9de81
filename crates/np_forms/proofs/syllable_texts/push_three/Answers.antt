use Rattle.std.proofs.Common.{◌∷◌, [], refl}
use Rattle.std.proofs.lemmas.Bool.{and_from}
use Rattle.np_forms.proofs.SyllableTextLemmas.{middle-scalar, three_encoded}
use Rattle.np_forms.proofs.syllable_texts.push_three.Goals as goal

pub append_bytes-requires : goal.append_bytes-requires
append_bytes-requires c = (
  c.args.a ∷ c.args.b ∷ c.args.c ∷ [],
  (
    and_from _ _ (middle-scalar c.args.a c.requires.first) (and_from _ _ (middle-scalar c.args.b c.requires.second) (and_from _ _ (middle-scalar c.args.c c.requires.third) refl)),
    three_encoded _ _ _ _ _ _ _ _ _ _ _ _ c.requires.first c.requires.second c.requires.third (c.lead_byte.ensures, c.middle_byte.ensures, c.last_byte.ensures)
        (c.lead_byte-2.ensures, c.middle_byte-2.ensures, c.last_byte-2.ensures) (c.lead_byte-3.ensures, c.middle_byte-3.ensures, c.last_byte-3.ensures),
  ),
)

pub returns : goal.returns
returns c =
    rw (three_encoded c.args.a c.args.b c.args.c c.lead_byte.result c.middle_byte.result c.last_byte.result c.lead_byte-2.result c.middle_byte-2.result c.last_byte-2.result c.lead_byte-3.result
    c.middle_byte-3.result c.last_byte-3.result c.requires.first c.requires.second c.requires.third (c.lead_byte.ensures, c.middle_byte.ensures, c.last_byte.ensures)
    (c.lead_byte-2.ensures, c.middle_byte-2.ensures, c.last_byte-2.ensures) (c.lead_byte-3.ensures, c.middle_byte-3.ensures, c.last_byte-3.ensures)) c.append_bytes.ensures
