use Rattle.std.proofs.Common.{◌∙◌, sym}
use Rattle.np_caseless.specs.Folded.{folded_by}
use Rattle.np_caseless.proofs.LentLemmas.{letter_once, letter_twice}
use Rattle.np_caseless.proofs.quick_images.are_letter_parts.Goals as goal

pub returns-then-not-compat : goal.returns-then-not-compat
returns-then-not-compat g c = λ yes is.
    let letter = c.if-not-is_letter.false in
    letter_once (folded_by (g.T.NormTable.model c.args.table.now) c.args.foldings.now) c.meets_conditions.ensures c.args.compat c.args.code c.args.parts.now
    c.if-not-compat.true (c.is_letter.ensures.unmapped letter) (c.is_letter.ensures.starter letter) is

pub returns : goal.returns
returns g c = λ yes is.
    let letter = c.if-not-is_letter.false in
    letter_twice (folded_by (g.T.NormTable.model c.args.table.now) c.args.foldings.now) c.meets_conditions.ensures c.args.compat c.args.code c.args.parts.now
    c.if-not-compat.false (c.is_letter.ensures.unmapped letter) (c.is_letter.ensures.starter letter) (sym c.are_quiet.ensures ∙ yes) is
