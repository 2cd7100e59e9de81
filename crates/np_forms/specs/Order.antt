-- Canonical ordering (The Unicode Standard, D107 to D109). `ccc` gives the combining class of a code point.
use Rattle.std.specs.Prelude.{◌≡◌, ℕ, Bool, true, not, ◌&&◌, nat_lt, List, [], ◌∷◌, ◌++◌}
use Rattle.np_code_points.specs.Steps.{Reaches}

-- A before B is a reorderable pair (D108)
unfoldable pub is_reorderable : (ℕ → ℕ) → ℕ → ℕ → Bool
is_reorderable ccc a b = nat_lt 0 (ccc b) && nat_lt (ccc b) (ccc a)

-- two adjacent code points that are a reorderable pair change places (one step of D109)
pub record Exchanges (ccc : ℕ → ℕ) (xs ys : List ℕ) : Type 0 where
  pub before : List ℕ
  pub a : ℕ
  pub b : ℕ
  pub after : List ℕ
  pub pair : is_reorderable ccc a b ≡ true
  pub old : xs ≡ before ++ a ∷ b ∷ after
  pub new : ys ≡ before ++ b ∷ a ∷ after

-- no two neighbors are a reorderable pair
unfoldable pub is_ordered : (ℕ → ℕ) → List ℕ → Bool
is_ordered ccc [] = true
is_ordered ccc (a ∷ []) = true
is_ordered ccc (a ∷ b ∷ cs) = not (is_reorderable ccc a b) && is_ordered ccc (b ∷ cs)

-- some number of exchanges leads from xs to ys, which holds no reorderable pair
pub record IsOrderedForm (ccc : ℕ → ℕ) (xs ys : List ℕ) : Type 0 where
  pub reached : Reaches (Exchanges ccc) xs ys
  pub ordered : is_ordered ccc ys ≡ true
