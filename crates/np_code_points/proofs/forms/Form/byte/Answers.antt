use Rattle.std.proofs.Common.{rules}
use Rattle.np_code_points.proofs.forms.Form.byte.Goals as goal

pub returns-in-Nfkd : goal.returns-in-Nfkd
returns-in-Nfkd c = search rules
