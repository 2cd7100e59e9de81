use Rattle.std.proofs.Common.{rules}
use Rattle.np_ucd.specs.inside.FieldReading.{category_value}
use Rattle.np_ucd.proofs.fields.category_of.Goals as goal

pub returns-in-len2 : goal.returns-in-len2
unfolding category_value
returns-in-len2 c = search rules
