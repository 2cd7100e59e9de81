-- Foldings that meet the conditions with versions that do: laws over all that do are not empty.
use Rattle.std.specs.Prelude.{List, [], ◌∷◌}
use Rattle.np_foldings.specs.Foldings.{Folding}

-- LATIN CAPITAL LETTER A folds to COMBINING RING ABOVE, a letter to a mark, and nothing else folds: so no published file has it
abbrev pub letter_folds : List Folding
letter_folds = record { code = 0x41; mapping = 0x30A ∷ [] } ∷ []
