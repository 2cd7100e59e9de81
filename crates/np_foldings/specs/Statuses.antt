-- The statuses of CaseFolding.txt.
use Rattle.std.specs.Prelude.{◌≡◌, ℕ, List, [], ◌∷◌, ◌⊎◌}
pub use Rattle.np_foldings.specs.declared.statuses.Status.{Status}
pub use Rattle.np_foldings.specs.declared.statuses.Status.TheVariants.{Common, Full, Simple, Turkic}

-- their letters: C, F, S, T
abbrev pub letter_of : Status → ℕ
letter_of Common = 67
letter_of Full = 70
letter_of Simple = 83
letter_of Turkic = 84

-- the order of the records of one code point
abbrev pub place_of : Status → ℕ
place_of Common = 1
place_of Full = 2
place_of Simple = 3
place_of Turkic = 4

abbrev pub IsStatusOf : List ℕ → Status → Type 0
IsStatusOf field status = field ≡ letter_of status ∷ []

-- full folding uses the records of status C and F, and no other
abbrev pub IsUsed : Status → Type 0
IsUsed status = (status ≡ Common) ⊎ (status ≡ Full)
