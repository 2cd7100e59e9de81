use Rattle.np_chain.proofs.KeptRowLemmas.{none_by_rows}
use Rattle.np_chain.proofs.kept_rows.is_kept_by_rows.Goals as goal

pub returns-then-keeps_rows : goal.returns-then-keeps_rows
returns-then-keeps_rows c = λ adds. none_by_rows c.args.old.now c.args.new.now (c.keeps_rows.ensures c.if-keeps_rows.true) (c.adds_nothing.ensures adds)
