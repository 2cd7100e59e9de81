use Rattle.std.proofs.Common.{sym}
use Rattle.np_caseless.proofs.ListedLemmas.{surrogate_quiet}
use Rattle.np_caseless.proofs.quiet.is_quiet_code.Goals as goal

pub returns-in-None : goal.returns-in-None
returns-in-None c = sym (surrogate_quiet c.args.foldings.now c.args.code c.are_in_order.ensures.each c.in-None.ensures.value)
