use Rattle.std.proofs.Common.{ℕ, ◌<◌, IfSome}
use Rattle.np_versions.proofs.Words.{IsAmbiguous, IsAtMost, IsSuspect}
use Rattle.np_versions.proofs.ambiguity.first_ambiguous.Given as goal

abbrev pub invariant-loop-place : goal.invariant-loop-place
invariant-loop-place l = record {
  ambiguous : IfSome l.first (IsAmbiguous l.characters);
  least : (k c : ℕ) → k < l.place → IsSuspect l.characters l.pairs k c → IsAtMost l.first c;
}
