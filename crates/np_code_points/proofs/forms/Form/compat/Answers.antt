use Rattle.std.proofs.Common.{rules}
use Rattle.np_code_points.proofs.forms.Form.compat.Goals as goal

pub returns-in-Nfkd : goal.returns-in-Nfkd
returns-in-Nfkd c = search rules
