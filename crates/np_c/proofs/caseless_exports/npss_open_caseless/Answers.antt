use Rattle.std.proofs.Common.{None, inr, refl}
use Rattle.np_c.proofs.caseless_exports.npss_open_caseless.Goals as goal

pub returns-in-Err : goal.returns-in-Err
returns-in-Err c = (None, inr (refl, c.in-Err.ensures.refused), refl)
