use Rattle.std.proofs.Common.{rules}
use Rattle.np_ucd.specs.inside.FieldReading.{class_value}
use Rattle.np_ucd.proofs.fields.class_of_digits.Goals as goal

pub returns-else-class-le254 : goal.returns-else-class-le254
unfolding class_value
returns-else-class-le254 c = search rules
