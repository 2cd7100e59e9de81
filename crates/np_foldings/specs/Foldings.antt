-- The foldings of CaseFolding.txt (The Unicode Standard, section 3.13), as contracts see them.
use Rattle.std.specs.Prelude.{◌≡◌, ◌≢◌, ◌==◌, if◌then◌else◌, ℕ, ◌<◌, ◌≤◌, true, List, [], ◌∷◌, length}
use lib.Utf8.{scalar}
use Rattle.std.specs.List.{All, AllPairs, list_all}

-- what a code point folds to
pub record Folding : Type 0 where
  pub code : ℕ
  pub mapping : List ℕ

-- what holds of each
pub record IsFolding (f : Folding) : Type 0 where
  -- neither the code point nor one that it folds to is a surrogate
  pub scalar_code : scalar f.code ≡ true
  pub scalars : list_all scalar f.mapping ≡ true
  pub some : 1 ≤ length f.mapping
  pub few : length f.mapping ≤ 32
  -- a code point that would fold to itself alone is none of them
  pub changes : f.mapping ≢ f.code ∷ []

-- what a code point folds to: what is listed for it, or itself alone
unfoldable pub folding_at : List Folding → ℕ → List ℕ
folding_at [] c = c ∷ []
folding_at (f ∷ fs) c = if f.code == c then f.mapping else folding_at fs c

-- each is one, and the code points rise
pub record AreFoldings (foldings : List Folding) : Type 0 where
  pub each : All IsFolding foldings
  pub rise : AllPairs (λ f g. f.code < g.code) foldings
