-- Files that are opened behind others.
use Rattle.std.specs.Prelude.{◌≡◌, ℕ, List, ◌++◌, map, Option}
use Rattle.std.specs.List.{AllZip}
use Rattle.np_code_points.specs.Watched.{device_of}
use Rattle.np_code_points.specs.declared.channels.watched.Watched.{Watched}

-- each name was opened, in this order, and its file stands behind the old ones
pub record AreOpenedBehind {D : Type 0} (tells : D → Option (List ℕ)) (Gives : List ℕ → Option (List ℕ) → Type 0) (names : List (List ℕ))
    (old new : List (Watched D)) : Type 0 where
  pub more : List (Watched D)
  pub are : new ≡ old ++ more
  pub opened : AllZip Gives names (map (λ (file : Watched D). tells (device_of file)) more)
