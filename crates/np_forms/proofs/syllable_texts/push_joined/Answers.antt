use Rattle.std.proofs.Common.{◌∷◌, [], refl, sym, arith, append-nil, ◌∙◌}
use Rattle.std.proofs.lemmas.Bool.{and_from}
use Rattle.np_code_points.proofs.HangulLemmas.{among_bounds}
use Rattle.np_forms.proofs.SyllableTextLemmas.{middle-scalar}
use Rattle.np_forms.proofs.syllable_texts.push_joined.Goals as goal

pub append_bytes-requires : goal.append_bytes-requires
append_bytes-requires c =
    let range = among_bounds 0xAC00 11172 c.args.syllable c.requires in (
      c.args.syllable ∷ [],
      (and_from _ _ (middle-scalar c.args.syllable (omega (arith, range.0), omega (arith, range.1))) refl, append-nil _ ∙ sym c.three_bytes.ensures),
    )
