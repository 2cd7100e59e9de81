use Rattle.std.proofs.Common.{arith}
use Rattle.np_versions.proofs.RowLemmas.{pages-all}
use Rattle.np_versions.proofs.row_pages.RowPages.new.Goals as goal

pub returns : goal.returns
returns c = pages-all c.args.rows.now c.loop-pages.pages.index.items c.loop-pages.pages.numbers.items c.loop-pages.at c.loop-pages.invariant.begun (omega arith)
