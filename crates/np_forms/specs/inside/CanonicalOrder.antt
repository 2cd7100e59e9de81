-- Canonical ordering as a function: a way to the one list of `IsOrderedForm`.
use Rattle.std.specs.Prelude.{ℕ, List, [], ◌∷◌, if◌then◌else◌}
use Rattle.np_forms.specs.Order.{is_reorderable}

-- c, put before ds, slides over each code point with which it is a reorderable pair, up to the first with which it is none
unfoldable pub slide : (ℕ → ℕ) → ℕ → List ℕ → List ℕ
slide ccc c [] = c ∷ []
slide ccc c (d ∷ ds) = if is_reorderable ccc c d then d ∷ slide ccc c ds else c ∷ d ∷ ds

-- a way to the one ordered form: from the last code point to the first, each slides into what follows it
unfoldable pub canonical_order : (ℕ → ℕ) → List ℕ → List ℕ
canonical_order ccc [] = []
canonical_order ccc (c ∷ cs) = slide ccc c (canonical_order ccc cs)
