-- The words of a text.
use Rattle.std.specs.Prelude.{◌≡◌, ◌≢◌, ℕ, List, [], ◌∷◌, ◌++◌}
use Rattle.std.specs.List.{All}
use Rattle.np_code_points.specs.Lines.{IsBlank}
pub use Rattle.np_code_points.specs.declared.words.Dividers.{Dividers}
pub use Rattle.np_code_points.specs.declared.words.Dividers.TheVariants.{Spaces, Blanks}

-- words are divided by spaces (32) alone, or by spaces and tabs
abbrev pub Divides : Dividers → ℕ → Type 0
Divides Spaces b = b ≡ 32
Divides Blanks b = IsBlank b

abbrev pub AreDividers : Dividers → List ℕ → Type 0
AreDividers d bytes = All (Divides d) bytes

-- nothing, or a divider comes next
abbrev pub EndsWord : Dividers → List ℕ → Type 0
EndsWord d [] = Unit {0}
EndsWord d (b ∷ rest) = Divides d b

-- No word where there are only dividers. Else dividers, a word without any, which is not empty, and the words of the rest.
abbrev pub AreWords : Dividers → List ℕ → List (List ℕ) → Type 0
AreWords d text [] = AreDividers d text
AreWords d text (word ∷ words) =
    (front : List ℕ) × (rest : List ℕ) × (text ≡ front ++ (word ++ rest))
    × AreDividers d front × (word ≢ []) × All (λ b. Divides d b → ⊥) word × EndsWord d rest × AreWords d rest words
