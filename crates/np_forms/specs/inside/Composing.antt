-- Canonical composition (The Unicode Standard, D117) as a function of the list. `join` gives the composite of a pair.
use Rattle.std.specs.Prelude.{ℕ, Bool, true, false, List, [], ◌∷◌, ◌++◌, Option, Some, None, if◌then◌else◌}
use Rattle.std.specs.List.{list_all}
use Rattle.np_versions.specs.inside.CompositeSearch.{composite}
use Rattle.np_forms.specs.Order.{is_reorderable}
use Rattle.np_versions.specs.Versions.{VersionData, class_of}
use Rattle.np_forms.specs.Starters.{is_starter}

-- nothing in bs blocks c (D115): each has a class above 0 and below that of c, so that c before it would be a reorderable pair
abbrev pub is_free : (ℕ → ℕ) → List ℕ → ℕ → Bool
is_free ccc bs c = list_all (is_reorderable ccc c) bs

-- the composite of a starter and c, where bs stands between them
unfoldable pub joined : (ℕ → ℕ) → (ℕ → ℕ → Option ℕ) → ℕ → List ℕ → ℕ → Option ℕ
joined ccc join s bs c = if is_free ccc bs c then join s c else None

-- the composition of cs behind the last starter s and bs, the non-starters that were kept after it
unfoldable pub compose_after : (ℕ → ℕ) → (ℕ → ℕ → Option ℕ) → ℕ → List ℕ → List ℕ → List ℕ
compose_after ccc join s bs [] = s ∷ bs
compose_after ccc join s bs (c ∷ cs) =
    elim (joined ccc join s bs c) [
      | Some p ↦ compose_after ccc join p bs cs
      | None ↦ elim (is_starter ccc c) [ true ↦ s ∷ (bs ++ compose_after ccc join c [] cs) | false ↦ compose_after ccc join s (bs ++ c ∷ []) cs ]
    ]

-- a way to the one composed list: what stands before the first starter stays
unfoldable pub compose : (ℕ → ℕ) → (ℕ → ℕ → Option ℕ) → List ℕ → List ℕ
compose ccc join [] = []
compose ccc join (c ∷ cs) = elim (is_starter ccc c) [ true ↦ compose_after ccc join c [] cs | false ↦ c ∷ compose ccc join cs ]

unfoldable pub compose_of : VersionData → List ℕ → List ℕ
compose_of v xs = compose (class_of v) (composite v) xs
