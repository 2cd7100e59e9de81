use Rattle.std.proofs.Common.{rules}
use Rattle.np_code_points.proofs.forms.Form.of_byte.Goals as goal

pub returns-in-99 : goal.returns-in-99
returns-in-99 c = search rules
