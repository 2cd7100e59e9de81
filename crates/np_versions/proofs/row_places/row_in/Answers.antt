use Rattle.std.proofs.Common.{sym}
use Rattle.np_versions.proofs.RowLemmas.{first-at, at-row}
use Rattle.np_versions.proofs.row_places.row_in.Goals as goal

pub returns-clause-row : goal.returns-clause-row
returns-clause-row c = at-row c.args.characters.now.entries c.args.at _ c.are_in_order.ensures (sym c.in-Some.ensures.row)

pub returns-clause-first : goal.returns-clause-first
returns-clause-first c = first-at c.args.characters.now.entries c.args.at _ c.are_in_order.ensures (sym c.in-Some.ensures.row)
