-- The folding of one more code point.
use Rattle.std.proofs.Common.{◌≡◌, ℕ, ◌+◌, ◌<◌, List, [], ◌∷◌, ◌++◌, length, get_or, take, flat_map, refl, sym, ap, ◌∙◌}
use Rattle.std.proofs.lemmas.Grind.{flat_map-append}
use Rattle.std.proofs.lemmas.List.{append-nil, take_more}
use Rattle.np_foldings.specs.Foldings.{Folding}
use Rattle.np_caseless.specs.Folded.{folding_at, fold_all}

pub fold_none : (fs : List Folding) → [] ≡ fold_all fs []
unfolding fold_all
fold_none fs = refl

fold_more : (fs : List Folding) (xs : List ℕ) (i x : ℕ) → i < length xs → x ≡ get_or xs i x → fold_all fs (take i xs) ++ folding_at fs x ≡ fold_all fs (take (i + 1) xs)
unfolding fold_all
fold_more fs xs i x lt here =
    let more : take (i + 1) xs ≡ take i xs ++ x ∷ [] = take_more xs i x lt ∙ ap (λ (k : ℕ). take i xs ++ k ∷ []) (sym here) in
    sym (
    ap (flat_map (folding_at fs)) more
    ∙ flat_map-append (folding_at fs) (take i xs) (x ∷ [])
    ∙ ap (λ l. flat_map (folding_at fs) (take i xs) ++ l) (append-nil (folding_at fs x))
    )

-- what is there, and the folding of the next code point behind it
pub fold_next : (fs : List Folding) (xs done added : List ℕ) (i x : ℕ) → i < length xs → x ≡ get_or xs i x → done ≡ fold_all fs (take i xs) → folding_at fs x ≡ added → done ++ added ≡ fold_all fs (take (i + 1) xs)
fold_next fs xs done added i x lt here before is =
    ap (λ l. l ++ added) before ∙ ap (λ l. fold_all fs (take i xs) ++ l) (sym is) ∙ fold_more fs xs i x lt here
