-- The code points that CompositionExclusions.txt lists (UAX #44), as contracts see them.
use Rattle.std.specs.Prelude.{ℕ, Bool, ◌&&◌, nat_le, List}
use Rattle.std.specs.List.{list_any}

-- the code points from first to last, both included
pub record Span : Type 0 where
  pub first : ℕ
  pub last : ℕ

abbrev pub is_within : ℕ → Span → Bool
is_within c s = nat_le s.first c && nat_le c s.last

-- whether a code point lies in one of the spans
abbrev pub is_listed : List Span → ℕ → Bool
is_listed spans c = list_any (is_within c) spans
