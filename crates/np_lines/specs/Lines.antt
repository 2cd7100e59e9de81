-- Bytes as lines.
use Rattle.std.specs.Prelude.{◌≡◌, ℕ, List, [], ◌∷◌, ◌++◌, flat_map}
use Rattle.std.specs.List.{All}
use Rattle.np_code_points.specs.Lines.{HasNo}
pub use Rattle.np_lines.specs.declared.lines.LineEnd.{LineEnd}
pub use Rattle.np_lines.specs.declared.lines.LineEnd.TheVariants.{Lf, Nul}

-- the byte that ends a line
abbrev pub byte_of : LineEnd → ℕ
byte_of Lf = 10
byte_of Nul = 0

-- lines in their order, each with the byte that ends it
abbrev pub ended : LineEnd → List (List ℕ) → List ℕ
ended end lines = flat_map (λ line. line ++ byte_of end ∷ []) lines

-- bytes are whole lines, each with the byte that ends it, which stands nowhere else, and then a rest without it
pub record IsCut (end : LineEnd) (bytes : List ℕ) (whole : List (List ℕ)) (rest : List ℕ) : Type 0 where
  pub joined : bytes ≡ ended end whole ++ rest
  pub apart : All (HasNo (byte_of end)) whole
  pub unended : HasNo (byte_of end) rest

-- the rest is a line too, where it isn't empty
abbrev pub last_line : List ℕ → List (List ℕ)
last_line [] = []
last_line (b ∷ bs) = (b ∷ bs) ∷ []

-- these are the lines of the bytes, the last of which may lack the byte that ends it; a CR is part of its line
pub record AreLines (end : LineEnd) (bytes : List ℕ) (lines : List (List ℕ)) : Type 0 where
  pub whole : List (List ℕ)
  pub rest : List ℕ
  pub cut : IsCut end bytes whole rest
  pub lines_are : lines ≡ whole ++ last_line rest
