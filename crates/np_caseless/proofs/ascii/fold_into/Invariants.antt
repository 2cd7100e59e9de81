use Rattle.std.proofs.Common.{◌≡◌, ℕ, List, drop, get_or, length, map, take}
use Rattle.np_caseless.proofs.ascii.fold_into.Given as goal

pub record InvariantLoopAt (room old bytes text : List ℕ) (at : ℕ) : Type 0 where
  pub size : length room ≡ length old
  pub front : take at room ≡ map (λ b. get_or bytes b 0) (take at text)
  pub rest : drop at room ≡ drop at old

abbrev pub invariant-loop-at : goal.invariant-loop-at
invariant-loop-at l = InvariantLoopAt l.room l.fn.room l.bytes l.text l.at
