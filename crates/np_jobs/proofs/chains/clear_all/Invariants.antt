use Rattle.np_jobs.specs.inside.ChainSteps.{AreClearedUpTo}
use Rattle.np_jobs.proofs.chains.clear_all.Given as goal

abbrev pub invariant-loop-file : goal.invariant-loop-file
invariant-loop-file g l = AreClearedUpTo l.file-index l.initial.files l.files
