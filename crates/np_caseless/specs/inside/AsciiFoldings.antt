-- ASCII that is folded byte by byte.
use Rattle.std.specs.Prelude.{◌≡◌, ◌⊎◌, ℕ, ◌<◌, ◌≤◌, true, List, [], ◌∷◌, get_or, length}
use Rattle.np_code_points.specs.declared.forms.Form.TheVariants.{Nfd, Nfc, Nfkd, Nfkc}
use Rattle.np_foldings.specs.Foldings.{Folding, folding_at}
use Rattle.np_versions.specs.Boundaries.{IsYesStarter}
use Rattle.np_versions.specs.Versions.{VersionData, is_assigned}
use Rattle.np_caseless.specs.Folded.{FoldedVersion}

-- a character folds to one of ASCII, which folds to itself, and is itself or no control: so it ends no line that the first doesn't end
pub record FoldsToByte (foldings : List Folding) (c b : ℕ) : Type 0 where
  pub folds : folding_at foldings c ≡ b ∷ []
  pub once : folding_at foldings b ≡ b ∷ []
  pub ascii : b < 128
  pub end : (b ≡ c) ⊎ (32 ≤ b)

-- so does each character of ASCII
pub record AreAsciiFoldings (foldings : List Folding) (bytes : List ℕ) : Type 0 where
  pub size : length bytes ≡ 128
  pub each : (c : ℕ) → c < 128 → FoldsToByte foldings c (get_or bytes c 0)

-- ASCII is assigned, and is kept by each form
pub record KeepsAscii (v : VersionData) : Type 0 where
  pub assigned : (c : ℕ) → c < 128 → is_assigned v c ≡ true
  pub nfd : (c : ℕ) → c < 128 → IsYesStarter v Nfd c
  pub nfc : (c : ℕ) → c < 128 → IsYesStarter v Nfc c
  pub nfkd : (c : ℕ) → c < 128 → IsYesStarter v Nfkd c
  pub nfkc : (c : ℕ) → c < 128 → IsYesStarter v Nfkc c

-- the caseless key of a text of ASCII is what its bytes fold to, under each form
pub record FoldsAscii (v : FoldedVersion) (bytes : List ℕ) : Type 0 where
  pub keeps : KeepsAscii v.version
  pub folds : AreAsciiFoldings v.foldings bytes
