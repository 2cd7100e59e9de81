use Rattle.std.proofs.Common.{None, Some, inl, inr, refl}
use Rattle.np_c.proofs.exports.npss_open.Goals as goal

pub returns-in-Err-clause-opened : goal.returns-in-Err-clause-opened
returns-in-Err-clause-opened c = (None, inr (refl, c.in-Err.ensures.refused), refl)

pub returns-in-Ok-clause-opened : goal.returns-in-Ok-clause-opened
returns-in-Ok-clause-opened c = (Some c.in-Ok.content.value, inl (c.of.ensures, c.in-Ok.ensures.version), c.exchange.ensures)
