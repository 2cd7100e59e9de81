use Rattle.std.proofs.Common.{◌-◌, ◌≤◌, ◌<◌, length}
use Rattle.np_versions.proofs.Words.{AllWithin, pair_rank}
use Rattle.np_versions.proofs.pairs.Pairs.place.Given as goal

abbrev pub invariant-loop-low : goal.invariant-loop-low
invariant-loop-low l = record {
  order : l.low ≤ l.high;
  fits : l.high ≤ length l.self;
  below : AllWithin (λ c. pair_rank c.first c.second < pair_rank l.first l.second) l.self 0 l.low;
  above : AllWithin (λ c. pair_rank l.first l.second ≤ pair_rank c.first c.second) l.self l.high (length l.self);
}

abbrev pub decreases-loop-low : goal.decreases-loop-low
decreases-loop-low l = l.high - l.low
