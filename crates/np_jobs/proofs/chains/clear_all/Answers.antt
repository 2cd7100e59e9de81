use Rattle.np_jobs.proofs.ChainLemmas.{none_cleared, one_cleared}
use Rattle.np_jobs.proofs.chains.clear_all.Goals as goal

pub loop-file-init : goal.loop-file-init
loop-file-init g c = none_cleared c.args.files.now

pub loop-file-preserved : goal.loop-file-preserved
loop-file-preserved g c =
    one_cleared c.loop-file.file-index c.args.files.now c.loop-file.files c.clear.new.self c.file-item.result c.loop-file.invariant c.clear.ensures.device c.clear.ensures.clear
