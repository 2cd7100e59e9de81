use Rattle.np_foldings.proofs.FieldGrammar.{one_field}
use Rattle.np_ucd.proofs.RecordLemmas.{cut_field}
use Rattle.np_foldings.proofs.fields.next_field.Goals as goal

pub returns-in_err-rest : goal.returns-in_err-rest
returns-in_err-rest c = rw c.from_residual.ensures (one_field c.args.rest.now c.cut_short.result.1 c.cut_short.ensures.after c.in_err-rest.was)

pub returns : goal.returns
returns c = cut_field c.args.rest.now c.cut_short.result.0.now c.in_ok-rest.field-0 c.cut_short.result.1 c.cut_short.ensures.before c.cut_short.ensures.after c.in_ok-rest.was
