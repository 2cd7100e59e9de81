-- How a code point is looked up among the foldings, by halves.
use Rattle.std.proofs.Common.{◌≡◌, ℕ, zero, suc, ◌-◌, ◌/◌, ◌<◌, ◌≤◌, Bor, Bool, true, false, leb, List, [], ◌∷◌, length, get_or, map, ◌+◌, refl, sym, ap, subst, ◌∙◌, eqb, arith, ⊎_elim}
use denote.Param.Members.{Mut}
use Rattle.std.specs.List.{All, AllPairs, AllWithin}
use Rattle.std.specs.List.Sorted.{IsNonDecreasingBy, IsPartitionPoint, IsPartitionedBy}
use Rattle.std.specs.Fn.{Called, ComputesKey}
use Rattle.std.proofs.lemmas.Bool.{cond-true, cond-false, eq-eqb, ne_eqb, leb-true, leb-false, cases_lt}
use Rattle.std.proofs.lemmas.List.{get_or-map, get_or_default, length-map}
use Rattle.std.proofs.lemmas.List.Elements.{All-head, All-tail, All-from_all_within}
use Rattle.std.proofs.lemmas.List.Sorted.{IsPartitionPoint-from_clause, IsPartitionedBy-leb}
use Rattle.np_foldings.specs.declared.foldings as code
use Rattle.np_foldings.specs.Foldings.{Folding, folding_at}
use Rattle.np_foldings.specs.FoldingValues.{folding_of}
use Rattle.np_foldings.specs.inside.Blocks.{AreMarked, IsMarked}

abbrev Item : Type 0
Item = code.Folding.Folding

abbrev Rises : List Item → Type 0
Rises items = (i j : ℕ) (d : Item) → i < j → j < length items → (get_or items i d).code < (get_or items j d).code

code_at : (items : List Item) (i : ℕ) (d : Item) → i < length items → (get_or (map folding_of items) i (folding_of d)).code ≡ (get_or items i d).code
code_at items i d lt = ap (λ (f : Folding). f.code) (get_or-map folding_of items i d (folding_of d) lt)

pub rising : (items : List Item) → AllPairs (λ (f g : Folding). f.code < g.code) (map folding_of items) → Rises items
rising items rise i j d lt inside =
    let len = length-map items folding_of in
    let pair = rise i j (folding_of d) lt (omega (arith, len)) in
    omega (arith, pair, code_at items i d (omega arith), code_at items j d inside)

falls_nowhere : (items : List Item) → Rises items → IsNonDecreasingBy (λ (f : Item). f.code) items
falls_nowhere items rise i j d le inside = ⊎_elim
    (λ before. let lt = rise i j d before inside in omega arith)
    (λ after. let same : i ≡ j = omega arith in let e = ap (λ k. (get_or items k d).code) same in omega arith)
    (cases_lt i j)

-- all before a place are at most the code point, and none from there on
abbrev pub Begun : ℕ → List Item → ℕ → Type 0
Begun c items n = IsPartitionPoint (λ (f : Item). leb f.code c ≡ true) (λ (f : Item). leb f.code c ≡ false) items n

pub begun_in_order : {F : Type 0} {g : Mut F (Bor Item × Unit {0}) Bool} {f : F} (c n : ℕ) (lent items : List Item) → lent ≡ items → Rises items
    → ((q : Item → Bool) → ComputesKey g q f → IsPartitionedBy q lent → IsPartitionPoint (λ y. q y ≡ true) (λ y. q y ≡ false) lent n)
    → ((a : Bor Item × Unit {0}) (r : Bool) (f' : F) → Called g f a r f' → (r ≡ leb a.0.now.code c) × (f' ≡ f)) → Begun c items n
begun_in_order {g = g} {f = f} c n lent items same rise clause calls =
    subst (λ xs. Begun c xs n) same (
    IsPartitionPoint-from_clause (λ (l : Item). leb l.code c) {g = g} {f = f} lent n clause
    (IsPartitionedBy-leb (λ (l : Item). l.code) lent c (falls_nowhere lent (subst Rises (sym same) rise))) calls)

head_at : (f : Item) (rest : List Item) (c : ℕ) (t : Bool) → eqb f.code c ≡ t
    → folding_at (map folding_of (f ∷ rest)) c ≡ elim t [ true ↦ f.mapping.items | false ↦ folding_at (map folding_of rest) c ]
unfolding folding_at
head_at f rest c true e = cond-true (eqb f.code c) f.mapping.items _ e
head_at f rest c false e = cond-false (eqb f.code c) f.mapping.items _ e

abbrev IsOther : ℕ → Item → Type 0
IsOther c f = f.code ≡ c → ⊥

none_among : (items : List Item) (c : ℕ) → All (IsOther c) items → folding_at (map folding_of items) c ≡ c ∷ []
unfolding folding_at
none_among [] c others = refl
none_among (f ∷ items) c others =
    head_at f items c false (ne_eqb f.code c (All-head (IsOther c) f items others)) ∙ none_among items c (All-tail (IsOther c) f items others)

found_at : (items : List Item) (k c : ℕ) (f : Item) → k < length items → f ≡ get_or items k f → f.code ≡ c → AllWithin (IsOther c) items 0 k
    → folding_at (map folding_of items) c ≡ f.mapping.items
found_at [] k c f lt is same others = absurd (omega arith)
found_at (g ∷ items) zero c f lt is same others =
    head_at g items c true (eq-eqb g.code c (sym (ap (λ (h : Item). h.code) is) ∙ same)) ∙ sym (ap (λ (h : Item). h.mapping.items) is)
found_at (g ∷ items) (suc k) c f lt is same others =
    head_at g items c false (ne_eqb g.code c (others 0 g (omega arith) (omega arith)))
    ∙ found_at items k c f (omega arith) is same (λ i d low high. others (suc i) d (omega arith) (omega arith))

-- the last that begins at the code point or before is its folding
pub found : (items : List Item) (n c : ℕ) (f : Item) → Rises items → 0 < n → n ≤ length items → f ≡ get_or items (n - 1) f → f.code ≡ c
    → folding_at (map folding_of items) c ≡ f.mapping.items
found items n c f rise some bound is same =
    found_at items (n - 1) c f (omega arith) is same (λ i d low high e.
    let lt = rise i (n - 1) d high (omega arith) in
    let last = ap (λ (h : Item). h.code) (is ∙ get_or_default items (n - 1) f d (omega arith)) in
    absurd (omega arith))

-- or is another's, and then none is
pub not_found : (items : List Item) (n c : ℕ) (f : Item) → Rises items → Begun c items n → 0 < n → n ≤ length items → f ≡ get_or items (n - 1) f
    → (f.code ≡ c → ⊥) → folding_at (map folding_of items) c ≡ c ∷ []
not_found items n c f rise begun some bound is other =
    none_among items c (All-from_all_within (IsOther c) items (λ i d low high e.
    let last = ap (λ (h : Item). h.code) (is ∙ get_or_default items (n - 1) f d (omega arith)) in
    let upto = leb-true (get_or items (n - 1) d).code c (begun.0 (n - 1) d (omega arith) (omega arith)) in
    ⊎_elim
    (λ before. let lt = rise i (n - 1) d before (omega arith) in absurd (other (omega arith)))
    (λ after. ⊎_elim
    (λ at. let place : i ≡ n - 1 = omega arith in let there = ap (λ k. (get_or items k d).code) place in absurd (other (omega arith)))
    (λ behind. let past = leb-false (get_or items i d).code c (begun.1 i d behind high) in absurd (omega arith))
    (cases_lt i n))
    (cases_lt i (n - 1))))

pub none_begun : (items : List Item) (n c : ℕ) → Begun c items n → n ≡ 0 → folding_at (map folding_of items) c ≡ c ∷ []
none_begun items n c begun none =
    none_among items c (All-from_all_within (IsOther c) items (λ i d low high e.
    let past = leb-false (get_or items i d).code c (begun.1 i d (omega arith) high) in omega arith))

-- where the block of a code point isn't marked, it isn't listed
pub not_marked : (items : List Item) (blocks : List ℕ) (c : ℕ) → AreMarked blocks items → get_or blocks (c / 16) 1 ≡ 0
    → folding_at (map folding_of items) c ≡ c ∷ []
not_marked items blocks c marked none =
    none_among items c (All-from_all_within (IsOther c) items (λ i d low high e. marked i d high (ap (λ n. get_or blocks (n / 16) 1) e ∙ none)))

-- one more block is marked
pub marked_next : (items : List Item) (before after : List ℕ) (at : ℕ) (f : Item) → f ≡ get_or items at f → at < length items → IsMarked after f.code
    → ((c : ℕ) → IsMarked before c → IsMarked after c) → ((k : ℕ) (d : Item) → k < at → k < length items → IsMarked before (get_or items k d).code)
    → (k : ℕ) (d : Item) → k < at + 1 → k < length items → IsMarked after (get_or items k d).code
marked_next items before after at f is inside here others done k d lt within =
    ⊎_elim
    (λ earlier. others (get_or items k d).code (done k d earlier within))
    (λ le.
    let place : at ≡ k = omega arith in
    let same = is ∙ get_or_default items at f d inside ∙ ap (λ n. get_or items n d) place in
    subst (λ (g : Item). IsMarked after g.code) same here)
    (cases_lt k at)
