use Rattle.std.proofs.Common.{le_refl}
use Rattle.np_tables.proofs.page_properties.properties_at.Goals as goal

pub returns-in-None : goal.returns-in-None
returns-in-None c = c.in-None.ensures.lookup.4 (le_refl _) _
