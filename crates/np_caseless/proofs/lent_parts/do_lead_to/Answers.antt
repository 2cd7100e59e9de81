use Rattle.np_caseless.proofs.LentLemmas.{none_behind}
use Rattle.np_caseless.proofs.lent_parts.do_lead_to.Goals as goal

pub returns-in-Some : goal.returns-in-Some
returns-in-Some g c = λ yes. none_behind c.args.list.now _ c.in-Some.rest.now c.is_empty.result c.in-Some.ensures c.is_empty.ensures yes
