use Rattle.std.proofs.Common.{◌≡◌, ◌⊎◌, ℕ, List, ◌∷◌, ◌++◌, chars, length}
use denote.Text.{Utf8}
use denote.Shadow.{shadow}
use Rattle.np_versions.specs.Boundaries.{BeginsAtBoundary}
use Rattle.np_lines.specs.Lines.{byte_of}
use Rattle.np_lines.proofs.keyed.has_boundaries.Given as goal

abbrev pub invariant-lines : goal.invariant-lines
invariant-lines g l =
    shadow (Utf8 l.rest)
    × ((before behind : List ℕ) → l.text ≡ before ++ byte_of l.wanted.end ∷ behind →
    BeginsAtBoundary (g.T.NormTable.model l.table) l.wanted.form (chars behind) ⊎ ((more : List ℕ) × (l.rest ≡ more ++ byte_of l.wanted.end ∷ behind)))

abbrev pub decreases-lines : goal.decreases-lines
decreases-lines g l = length l.rest
