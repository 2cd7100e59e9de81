use Rattle.std.proofs.Common.{None, Some, inl, inr, refl}
use Rattle.np_c.proofs.exports.npss_share.Goals as goal

pub returns-in-Err-clause-shared : goal.returns-in-Err-clause-shared
returns-in-Err-clause-shared c = rw c.in-Some.ensures.some (None, inr (c.of-in-Err.ensures, refl), refl)

pub returns-in-Ok-clause-shared : goal.returns-in-Ok-clause-shared
returns-in-Ok-clause-shared c = rw c.in-Some.ensures.some (Some c.in-Ok.second.value, inl (c.of-in-Ok.ensures, c.in-Ok.ensures.version), c.exchange.ensures)
