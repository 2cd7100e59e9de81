use Rattle.np_tables.proofs.PageLemmas.{hints-less}
use Rattle.np_tables.proofs.page_hints.leading_hints.Goals as goal

pub returns-then-own : goal.returns-then-own
returns-then-own c = λ v compat code are. hints-less v compat code c.args.own _ (λ is. c.if-own.true) are
