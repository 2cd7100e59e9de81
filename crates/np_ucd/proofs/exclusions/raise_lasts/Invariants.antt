use Rattle.std.proofs.Common.{◌≡◌, ◌++◌, take, drop, length}
use Rattle.np_ucd.specs.inside.SpanValues.{raised}
use Rattle.np_ucd.proofs.exclusions.raise_lasts.Given as goal

abbrev pub invariant-loop-at : goal.invariant-loop-at
invariant-loop-at l = record {
  size : length l.listings.items ≡ length l.initial.listings.items;
  total : take l.at l.listings.items ++ raised l.last (drop l.at l.listings.items) ≡ raised 0 l.initial.listings.items;
}
