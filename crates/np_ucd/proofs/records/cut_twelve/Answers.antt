use Rattle.std.proofs.Common.{◌∷◌, length, sym, ap, ◌∙◌}
use Rattle.std.proofs.lemmas.Bool.{eqb-true}
use Rattle.np_ucd.proofs.RecordLemmas.{twelve}
use Rattle.np_ucd.specs.inside.FieldReading.{fields_of as parts}
use Rattle.np_ucd.proofs.records.cut_twelve.Goals as goal

pub returns-then-has_nine : goal.returns-then-has_nine
returns-then-has_nine c =
    let class = c.in_ok-class.class.now in
    let bidi = c.in_ok-_bidi._bidi.now in
    let mapping = c.in_ok-mapping.mapping.now in
    let rest = c.in_ok-mapping.rest.now in
    twelve c.args.text.now rest class bidi mapping
    (c.in_ok-class.ensures ∙ ap (λ ps. class ∷ ps) (c.in_ok-_bidi.ensures ∙ ap (λ ps. bidi ∷ ps) c.in_ok-mapping.ensures))
    (eqb-true (length (parts rest)) 9 (sym c.has_nine.ensures ∙ c.if-has_nine.true))
