-- How a text is cut into words, as functions of its bytes; `specs/Words` says it in relations.
use Rattle.std.specs.Prelude.{ℕ, Bool, not, ◌==◌, List, [], ◌∷◌, Option, Some, None, if◌then◌else◌}
use Rattle.std.specs.List.{slice_split, filter}
use Rattle.np_code_points.specs.Words.{Dividers, Spaces, Blanks}
use Rattle.np_code_points.specs.inside.LineCuts.{is_blank, is_empty}

abbrev pub divides : Dividers → ℕ → Bool
divides Spaces b = b == 32
divides Blanks b = is_blank b

-- without the elements in front that pass
abbrev pub after_all : (ℕ → Bool) → List ℕ → List ℕ
after_all passes [] = []
after_all passes (b ∷ bs) = if passes b then after_all passes bs else b ∷ bs

-- the parts that are not empty
unfoldable pub words_by : (ℕ → Bool) → List ℕ → List (List ℕ)
words_by passes text = filter (λ word. not (is_empty word)) (slice_split passes text)

abbrev pub words_of : Dividers → List ℕ → List (List ℕ)
words_of d text = words_by (divides d) text

-- all, or nothing where there is none
abbrev pub or_nothing : Option (List ℕ) → List ℕ
or_nothing None = []
or_nothing (Some rest) = rest
