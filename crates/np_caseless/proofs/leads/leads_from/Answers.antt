use Rattle.np_caseless.proofs.LeadLemmas.{leads_few}
use Rattle.np_caseless.proofs.leads.leads_from.Goals as goal

pub returns : goal.returns
returns c =
    leads_few c.args.bytes.now c.copy_from_slice.new.self c.args.from c.leads_in_lanes-2.result c.copy_from_slice.ensures.after c.requires
    c.leads_in_lanes-2.ensures
