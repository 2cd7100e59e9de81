use Rattle.std.proofs.Common.{◌+◌, ◌∷◌, take, sym, ap, ◌∙◌}
use Rattle.std.proofs.lemmas.List.{take_rest}
use Rattle.np_ucd.proofs.RecordLemmas.{field_at}
use Rattle.np_ucd.specs.inside.FieldReading.{fields_of as parts}
use Rattle.np_ucd.proofs.records.field_of_length.Goals as goal

pub returns-then-has_no_divider : goal.returns-then-has_no_divider
returns-then-has_no_divider g c =
    field_at g.row.N c.args.rest.now c.if-rest.true (sym c.has_no_divider.ensures ∙ c.if-has_no_divider.true) c.if-rest-eq59.true
    ∙ ap (λ xs. take g.row.N c.args.rest.now ∷ parts xs) (sym (take_rest c.args.rest.now (g.row.N + 1)))
