-- Rows whose mappings are ranges of one flat list.
use Rattle.std.proofs.Common.{◌<◌, Some, None, ◌≡◌, ℕ, ◌+◌, ◌-◌, ◌≤◌, List, [], ◌∷◌, ◌++◌, length, take, drop, map, refl, sym, ap, ◌∙◌, arith}
use Rattle.std.specs.List.{slice_get, slice_range}
use Rattle.std.proofs.lemmas.List.{take-append-le, drop-append-le, length-drop, map_push, take_more}
use Rattle.std.proofs.lemmas.Option.{get_or_from_slice_get, none-some, slice_get-get_or, slice_get_within}
use Rattle.std.proofs.lemmas.List.Elements.{All-head, All-tail}
use Rattle.np_ucd.specs.declared.kept_rows.KeptRow.{KeptRow}
use Rattle.np_ucd.specs.Entries.{Entry}
use Rattle.np_ucd.specs.inside.KeptRows.{kept_entry, IsKept, AreKept}

with_mapping : KeptRow → List ℕ → Entry
with_mapping r mapping = record { first = r.first; last = r.last; class = r.class; kind = r.kind; mapping = mapping }

slice_range-grown : (old more : List ℕ) (start count : ℕ) → start + count ≤ length old → slice_range (old ++ more) start (start + count) ≡ slice_range old start (start + count)
slice_range-grown old more start count is =
    let fits : start + count - start ≤ length (drop start old) = omega (arith, length-drop start old) in
    ap (take (start + count - start)) (drop-append-le start old more (omega arith)) ∙ take-append-le (start + count - start) (drop start old) more fits

kept_entry-grown : (old more : List ℕ) (r : KeptRow) → IsKept (length old) r → kept_entry (old ++ more) r ≡ kept_entry old r
unfolding with_mapping
kept_entry-grown old more r is = ap (with_mapping r) (slice_range-grown old more r.start r.count is)

-- the rows stay as they are, where the list grows
entries-grown : (old more : List ℕ) (rows : List KeptRow) → AreKept old rows → map (kept_entry (old ++ more)) rows ≡ map (kept_entry old) rows
entries-grown old more [] all = refl
entries-grown old more (r ∷ rows) all =
    let here = kept_entry-grown old more r (All-head (IsKept (length old)) r rows all) in
    let rest = entries-grown old more rows (All-tail (IsKept (length old)) r rows all) in
    cc

-- one more row at the end
pub entries-push : (old more new : List ℕ) (rows pushed : List KeptRow) (r : KeptRow) (e : Entry) → AreKept old rows → new ≡ old ++ more → kept_entry new r ≡ e → pushed ≡ rows ++ r ∷ [] → map (kept_entry new) pushed ≡ map (kept_entry old) rows ++ e ∷ []
entries-push old more new rows pushed r e all grows is one =
    ap (map (kept_entry new)) one
    ∙ map_push (kept_entry new) rows r
    ∙ ap (λ es. es ++ kept_entry new r ∷ []) (ap (λ codes. map (kept_entry codes) rows) grows ∙ entries-grown old more rows all)
    ∙ ap (λ (x : Entry). map (kept_entry old) rows ++ x ∷ []) is

-- one more of a list's elements in their order
pub walked : {X : Type 0} (xs done : List X) (at : ℕ) (x : X) → done ≡ take at xs → slice_get xs at ≡ Some x → done ++ x ∷ [] ≡ take (at + 1) xs
walked xs done at x before found =
    let fits = slice_get_within xs at x found in
    ap (λ l. l ++ x ∷ []) before ∙ sym (take_more xs at x fits ∙ ap (λ y. take at xs ++ y ∷ []) (get_or_from_slice_get xs at x x found))

-- no element is missing
pub within-some : {X : Type 0} (xs : List X) (at : ℕ) → at < length xs → slice_get xs at ≡ None → ⊥
within-some [] at lt none = omega arith
within-some (x ∷ xs) at lt none = let e = slice_get-get_or (x ∷ xs) at x lt in none-some _ (sym none ∙ e)
