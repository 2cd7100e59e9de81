use Rattle.np_versions.specs.inside.RowPages.{ArePushed}
use Rattle.np_versions.proofs.row_pages.push_block.Given as goal

abbrev pub invariant-loop-low : goal.invariant-loop-low
invariant-loop-low l = ArePushed l.rows l.first l.low l.fn.numbers.items l.numbers.items l.at
