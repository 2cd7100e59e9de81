use Rattle.std.proofs.Common.{◌∷◌, ap, ◌∙◌}
use Rattle.np_ucd.proofs.RecordLemmas.{fifteen}
use Rattle.np_ucd.proofs.records.fields_of.Goals as goal

pub returns : goal.returns
returns c =
    let code = c.in_ok-code.code.now in
    let name = c.in_ok-name.name.now in
    let category = c.in_ok-category.category.now in
    fifteen c.args.text.now c.in_ok-category.rest.now code name category c.in_ok-class.class.now c.in_ok-class.mapping.now
    (c.in_ok-code.ensures ∙ ap (λ ps. code ∷ ps) (c.in_ok-name.ensures ∙ ap (λ ps. name ∷ ps) c.in_ok-category.ensures))
    c.in_ok-class.ensures
