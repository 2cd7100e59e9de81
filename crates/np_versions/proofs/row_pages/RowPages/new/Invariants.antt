use Rattle.std.proofs.Common.{◌-◌, ◌≤◌, length}
use Rattle.np_versions.specs.inside.RowPages.{AreBegun}
use Rattle.np_versions.proofs.row_pages.RowPages.new.Given as goal

abbrev pub invariant-loop-pages : goal.invariant-loop-pages
invariant-loop-pages l = record {
  begun : AreBegun l.rows l.pages.index.items l.pages.numbers.items l.at;
  few : length l.pages.index.items ≤ 4352;
}

abbrev pub decreases-loop-pages : goal.decreases-loop-pages
decreases-loop-pages l = 4352 - length l.pages.index.items
