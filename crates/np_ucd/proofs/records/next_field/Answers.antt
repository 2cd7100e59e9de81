use Rattle.np_ucd.proofs.RecordLemmas.{cut_field, cut_no_field}
use Rattle.np_ucd.proofs.records.next_field.Goals as goal

pub returns-in_err-rest : goal.returns-in_err-rest
returns-in_err-rest c = rw c.from_residual.ensures (cut_no_field c.args.rest.now c.cut.result.1 c.cut.ensures.after c.in_err-rest.was)

pub returns : goal.returns
returns c = cut_field c.args.rest.now c.cut.result.0.now c.in_ok-rest.field-0 c.cut.result.1 c.cut.ensures.before c.cut.ensures.after c.in_ok-rest.was
