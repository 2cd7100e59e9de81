use Rattle.std.proofs.Common.{refl}
use Rattle.np_caseless.proofs.LeadLemmas.{lane_leads}
use Rattle.np_caseless.proofs.leads.leads_in_lanes.Goals as goal

pub returns : goal.returns
returns c = lane_leads c.args.bytes.now _ c.requires refl
