use Rattle.np_caseless.specs.Folded.{folded_by}
use Rattle.np_caseless.proofs.LentLemmas.{leads}
use Rattle.np_caseless.proofs.quick_images.leads_once.Goals as goal

pub returns : goal.returns
returns g c = λ yes.
    leads (folded_by (g.T.NormTable.model c.args.table.now) c.args.foldings.now) c.args.compat c.args.code c.in-Some.first.now c.args.once.now
    c.in-Some.ensures (c.do_stay.ensures c.if-not-do_stay.false) (c.do_lead_to.ensures yes)
