-- What words say, as functions of their bytes; `specs/Codes` says it in relations.
use Rattle.std.specs.Prelude.{ℕ, ◌&&◌, nat_le, List, [], ◌∷◌, length, Option, Some, None, option_map, option_and_then, if◌then◌else◌}
use lib.Utf8.{scalar}
use Rattle.np_code_points.specs.Codes.{code_value}

-- a code point that is no surrogate
abbrev pub if_scalar : ℕ → Option ℕ
if_scalar code = if scalar code then Some code else None

unfoldable pub scalar_value : List ℕ → Option ℕ
scalar_value word = option_and_then if_scalar (code_value word)

-- what the words say, where each of them says something
unfoldable pub values_of : (List ℕ → Option ℕ) → List (List ℕ) → Option (List ℕ)
values_of value [] = Some []
values_of value (word ∷ words) = option_and_then (λ first. option_map (λ rest. first ∷ rest) (values_of value words)) (value word)

-- the code points that the words write, where each of them writes one
abbrev pub scalars_of : List (List ℕ) → Option (List ℕ)
scalars_of = values_of scalar_value

-- at least one and at most so many
abbrev pub if_short : ℕ → List ℕ → Option (List ℕ)
if_short most values = if nat_le 1 (length values) && nat_le (length values) most then Some values else None
