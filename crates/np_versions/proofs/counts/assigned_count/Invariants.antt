use Rattle.std.proofs.Common.{◌≡◌, ◌+◌, drop}
use Rattle.np_versions.proofs.CountLemmas.{sizes}
use Rattle.np_versions.proofs.counts.assigned_count.Given as goal

abbrev pub invariant-loop-at : goal.invariant-loop-at
invariant-loop-at l = l.count + sizes (drop l.at l.characters.entries) ≡ sizes l.characters.entries
