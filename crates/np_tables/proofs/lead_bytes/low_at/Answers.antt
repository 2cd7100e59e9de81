use Rattle.std.proofs.Common.{rules}
use Rattle.np_tables.proofs.lead_bytes.low_at.Goals as goal

pub returns-then-end-at-clause-same : goal.returns-then-end-at-clause-same
returns-then-end-at-clause-same c = search rules
