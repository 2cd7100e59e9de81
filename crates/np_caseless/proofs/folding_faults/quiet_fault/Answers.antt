use Rattle.std.proofs.Common.{◌∙◌, sym}
use Rattle.np_caseless.specs.Folded.{folded_by}
use Rattle.np_caseless.proofs.FirstLemmas.{first_folding}
use Rattle.np_caseless.proofs.folding_faults.quiet_fault.Goals as goal

pub returns-then-not-is_quiet : goal.returns-then-not-is_quiet
returns-then-not-is_quiet g c =
    first_folding (folded_by (g.T.NormTable.model c.args.table.now) c.args.foldings.now) c.args.code (sym c.is_quiet.ensures ∙ c.if-not-is_quiet.true)
