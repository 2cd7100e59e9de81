-- What is written of a report so far.
use Rattle.std.specs.Prelude.{ℕ, Bool, true, false, List, [], ◌∷◌, map, flat_map}
use Rattle.std.specs.List.{enumerate_from, join_with_byte}
use Rattle.np_code_points.specs.Codes.{code_digits}

-- code points in hex digits with a space between
abbrev pub joined_codes : List ℕ → List ℕ
joined_codes codes = join_with_byte 32 (map code_digits codes)

-- what stands before a code point
abbrev pub gap : Bool → List ℕ
gap true = []
gap false = 32 ∷ []

abbrev pub is_nothing : List ℕ → Bool
is_nothing [] = true
is_nothing (c ∷ cs) = false

-- the lines of a list whose places are numbered from 0
abbrev pub numbered_lines : {A : Type 0} → (ℕ → A → List ℕ) → List A → List ℕ
numbered_lines line xs = flat_map (λ p. line p.0 p.1) (enumerate_from 0 xs)
