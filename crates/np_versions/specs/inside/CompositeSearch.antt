-- The primary composite of a pair as a function: the least code point that is one.
use Rattle.std.specs.Prelude.{ℕ, zero, suc, Bool, true, false, ◌&&◌, ◌==◌, List, [], ◌∷◌, Option, Some, None}
use Rattle.np_versions.specs.Versions.{VersionData, decomposition_mapping}
use Rattle.np_versions.specs.inside.Primaries.{is_primary}

abbrev pub or_this : Option ℕ → Bool → ℕ → Option ℕ
or_this (Some k) b n = Some k
or_this None true n = Some n
or_this None false n = None

-- the least number below n that passes
unfoldable pub least_below : (ℕ → Bool) → ℕ → Option ℕ
least_below p zero = None
least_below p (suc n) = or_this (least_below p n) (p n) n

abbrev pub is_pair : ℕ → ℕ → List ℕ → Bool
is_pair a b (x ∷ y ∷ []) = x == a && y == b
is_pair a b _ = false

-- the primary composite whose mapping is exactly a and then b
unfoldable pub composite : VersionData → ℕ → ℕ → Option ℕ
composite v a b = least_below (λ c. is_primary v c && is_pair a b (decomposition_mapping v c)) 0x110000
