use Rattle.std.proofs.Common.{◌≡◌, length, refl, ap, ◌∙◌}
use Rattle.std.specs.Prelude.{codes}
use Rattle.np_ucd.specs.inside.FieldReading.{fields_of as parts}
use Rattle.np_ucd.proofs.records.are_usual.Goals as goal

nine : length (parts (codes ";;;N;;;;;")) ≡ 9
unfolding parts
nine = refl

pub returns : goal.returns
returns c = λ h. ap (λ xs. length (parts xs)) (c.is_text.ensures h) ∙ nine
