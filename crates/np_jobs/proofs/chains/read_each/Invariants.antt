use Rattle.std.specs.Prelude.{map}
use Rattle.np_jobs.specs.inside.ChainSteps.{AreReadUpTo}
use Rattle.np_jobs.proofs.chains.read_each.Given as goal

abbrev pub invariant-loop-number : goal.invariant-loop-number
invariant-loop-number g l = AreReadUpTo g.F.Read.remaining l.number l.initial.files l.files (map g.T.NormTable.model l.tables.items)
