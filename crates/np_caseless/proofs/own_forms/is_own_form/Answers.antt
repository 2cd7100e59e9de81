use Rattle.np_caseless.proofs.OwnFormLemmas.{own_where_all_passes}
use Rattle.np_caseless.proofs.own_forms.is_own_form.Goals as goal

pub returns-clause-form : goal.returns-clause-form
returns-clause-form g c = λ yes.
    let version = g.T.NormTable.model c.args.table.now in
    (own_where_all_passes version c.args.wanted c.args.text.now c.quick_check_span.result yes c.quick_check_span.ensures.stable).1

pub returns-clause-assigned : goal.returns-clause-assigned
returns-clause-assigned g c = λ yes.
    let version = g.T.NormTable.model c.args.table.now in
    (own_where_all_passes version c.args.wanted c.args.text.now c.quick_check_span.result yes c.quick_check_span.ensures.stable).0
