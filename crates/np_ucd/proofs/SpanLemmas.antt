-- Listings in order, and the search among them by halves.
use Rattle.std.proofs.Common.{◌≡◌, ℕ, zero, suc, ◌-◌, ◌<◌, ◌≤◌, max, Bor, Bool, true, false, ◌&&◌, ◌||◌, leb, ltb, List, [], ◌∷◌, length, get_or, map, refl, sym, ap, subst, ◌∙◌, arith, ⊎_elim}
use denote.Param.Members.{Mut}
use Rattle.std.specs.List.{list_any}
use Rattle.std.specs.List.Sorted.{IsNonDecreasingBy, IsPartitionPoint, IsPartitionedBy, IsPermutation}
use Rattle.std.specs.Fn.{Called, ComputesKey}
use Rattle.std.proofs.lemmas.List.Sorted.{list_any-IsPermutation, IsPartitionPoint-from_clause, IsPartitionedBy-leb}
use Rattle.std.proofs.lemmas.List.{get_or_default}
use Rattle.std.proofs.lemmas.List.Folds.{list_any_none, list_any_at}
use Rattle.std.proofs.lemmas.List.Elements.{All-from_all_within}
use Rattle.std.proofs.lemmas.Bool.{leb-true, leb-false, le-leb, lt-leb, le-ltb, and_from, and_left, and_right, cases_lt}
use Rattle.std.proofs.lemmas.Bool.Decides.{nat_tests}
use Rattle.np_ucd.specs.declared.exclusions.Listing.{Listing}
use Rattle.np_ucd.specs.Listed.{Span, is_listed}
use Rattle.np_ucd.specs.inside.SpanValues.{span_of, raised, AreRising}

abbrev within : ℕ → ℕ → ℕ → Bool
within first last c = leb first c && leb c last

abbrev IsAbove : ℕ → List Listing → Type 0
IsAbove first [] = Unit {0}
IsAbove first (l ∷ ls) = (first ≤ l.first) × IsAbove l.first ls

tail_rises : (l : Listing) (ls : List Listing) → IsNonDecreasingBy (λ (k : Listing). k.first) (l ∷ ls) → IsNonDecreasingBy (λ (k : Listing). k.first) ls
tail_rises l ls h = λ i j d le lt. h (suc i) (suc j) d (omega arith) (omega arith)

above : (l : Listing) (ls : List Listing) → IsNonDecreasingBy (λ (k : Listing). k.first) (l ∷ ls) → IsAbove l.first ls
above l [] h = tt
above l (k ∷ ks) h = (h 0 1 l (omega arith) (omega arith), above k ks (tail_rises l (k ∷ ks) h))

-- raising a last code point to that of a listing that begins before lists nothing more
raise_one : (f m g l c : ℕ) (rest : Bool) → f ≤ g → (within f m c || (within g (max l m) c || rest)) ≡ (within f m c || (within g l c || rest))
raise_one f m g l c rest h = grind (arith, nat_tests)

covered : (f m c : ℕ) (ls : List Listing) → IsAbove f ls → (within f m c || is_listed (map span_of (raised m ls)) c) ≡ (within f m c || is_listed (map span_of ls) c)
covered f m c [] h = refl
covered f m c (l ∷ ls) h =
    ap (λ r. within f m c || r) (covered l.first (max l.last m) c ls h.1)
    ∙ raise_one f m l.first l.last c (is_listed (map span_of ls) c) h.0

max_zero : (n : ℕ) → max n 0 ≡ n
max_zero n = omega arith

pub raised_lists_same : (ls : List Listing) (c : ℕ) → IsNonDecreasingBy (λ (k : Listing). k.first) ls → is_listed (map span_of (raised 0 ls)) c ≡ is_listed (map span_of ls) c
raised_lists_same [] c h = refl
raised_lists_same (l ∷ ls) c h =
    ap (λ n. within l.first n c || is_listed (map span_of (raised n ls)) c) (max_zero l.last)
    ∙ covered l.first l.last c ls (above l ls h)

length-raised : (m : ℕ) (ls : List Listing) → length (raised m ls) ≡ length ls
length-raised m [] = refl
length-raised m (l ∷ ls) = ap suc (length-raised (max l.last m) ls)

first_raised : (m : ℕ) (ls : List Listing) (i : ℕ) (d : Listing) → (get_or (raised m ls) i d).first ≡ (get_or ls i d).first
first_raised m [] i d = refl
first_raised m (l ∷ ls) zero d = refl
first_raised m (l ∷ ls) (suc i) d = first_raised (max l.last m) ls i d

last_above : (m : ℕ) (ls : List Listing) (i : ℕ) (d : Listing) → i < length ls → m ≤ (get_or (raised m ls) i d).last
last_above m [] i d h = absurd (omega arith)
last_above m (l ∷ ls) zero d h = omega arith
last_above m (l ∷ ls) (suc i) d h = let k = last_above (max l.last m) ls i d (omega arith) in omega arith

lasts_rise : (m : ℕ) (ls : List Listing) (i j : ℕ) (d : Listing) → i ≤ j → j < length ls → (get_or (raised m ls) i d).last ≤ (get_or (raised m ls) j d).last
lasts_rise m [] i j d le lt = absurd (omega arith)
lasts_rise m (l ∷ ls) zero zero d le lt = omega arith
lasts_rise m (l ∷ ls) zero (suc j) d le lt = last_above (max l.last m) ls j d (omega arith)
lasts_rise m (l ∷ ls) (suc i) zero d le lt = absurd (omega arith)
lasts_rise m (l ∷ ls) (suc i) (suc j) d le lt = lasts_rise (max l.last m) ls i j d (omega arith) (omega arith)

pub raised_rises : (ls : List Listing) → IsNonDecreasingBy (λ (k : Listing). k.first) ls → AreRising (raised 0 ls)
raised_rises ls h = record {
  firsts = λ i j d le lt.
      let len = length-raised 0 ls in
      let a = first_raised 0 ls i d in
      let b = first_raised 0 ls j d in
      omega (arith, h i j d le (omega arith));
  lasts = λ i j d le lt. let len = length-raised 0 ls in lasts_rise 0 ls i j d le (omega arith);
}

-- The search: all listings before a place have begun, and none from there on.
abbrev lists : ℕ → Listing → Bool
lists c l = within l.first l.last c

any_map : (ls : List Listing) (c : ℕ) → is_listed (map span_of ls) c ≡ list_any (lists c) ls
any_map [] c = refl
any_map (l ∷ ls) c = ap (λ r. lists c l || r) (any_map ls c)

abbrev pub Begun : ℕ → List Listing → ℕ → Type 0
Begun c ls n = IsPartitionPoint (λ (l : Listing). leb l.first c ≡ true) (λ (l : Listing). leb l.first c ≡ false) ls n

-- the place that the search found, in listings that rise
pub begun_in_order : {F : Type 0} {g : Mut F (Bor Listing × Unit {0}) Bool} {f : F} (c n : ℕ) {ls items : List Listing} → ls ≡ items → AreRising items → ((q : Listing → Bool) → ComputesKey g q f → IsPartitionedBy q ls → IsPartitionPoint (λ y. q y ≡ true) (λ y. q y ≡ false) ls n) → ((a : Bor Listing × Unit {0}) (r : Bool) (f' : F) → Called g f a r f' → (r ≡ leb a.0.now.first c) × (f' ≡ f)) → Begun c ls n × AreRising ls
begun_in_order {g = g} {f = f} c n {ls = ls} same rising clause calls =
    let here : AreRising ls = subst AreRising (sym same) rising in (
      IsPartitionPoint-from_clause (λ (l : Listing). leb l.first c) {g = g} {f = f} ls n clause (IsPartitionedBy-leb (λ (l : Listing). l.first) ls c here.firsts) calls,
      here,
    )

-- what the listings of a value list, the value lists
pub listed_as : (c : ℕ) {ls items : List Listing} {spans : List Span} → ls ≡ items → map span_of items ≡ spans → is_listed (map span_of ls) c ≡ is_listed spans c
listed_as c same view = ap (λ (l : List Listing). is_listed (map span_of l) c) same ∙ ap (λ (l : List Span). is_listed l c) view

past_at : (n k : ℕ) → k < n → (j : ℕ) × (n ≡ suc j)
past_at zero k h = absurd (omega arith)
past_at (suc j) k h = (j, refl)

-- no listing of a place where none has begun, or the last that has begun ends before
pub listed_none : (c n : ℕ) (ls : List Listing) → Begun c ls n → AreRising ls → ((d : Listing) (k : ℕ) → n ≡ suc k → (get_or ls k d).last < c) → n ≤ length ls → is_listed (map span_of ls) c ≡ false
listed_none c n ls begun rising past bound =
    any_map ls c
    ∙ list_any_none (lists c) ls (All-from_all_within (λ l. lists c l ≡ false) ls (λ k d low high.
    ⊎_elim
    (λ before. let j = past_at n k before in
    let upto = rising.lasts k (j.0) d (omega (arith, j.1)) (omega (arith, j.1)) in
    let end = past d (j.0) j.1 in
    and_right (leb (get_or ls k d).first c) (leb c (get_or ls k d).last) (lt-leb c (get_or ls k d).last (omega arith)))
    (λ after. and_left (leb (get_or ls k d).first c) (leb c (get_or ls k d).last) (begun.1 k d after high))
    (cases_lt k n)))

pub listed_some : (c n k : ℕ) (d : Listing) (ls : List Listing) → Begun c ls n → n ≡ suc k → n ≤ length ls → c ≤ (get_or ls k d).last → is_listed (map span_of ls) c ≡ true
listed_some c n k d ls begun e bound within_last =
    any_map ls c
    ∙ list_any_at (lists c) ls k d (omega arith)
    (and_from (leb (get_or ls k d).first c) (leb c (get_or ls k d).last) (begun.0 k d (omega arith) (omega arith)) (le-leb c (get_or ls k d).last within_last))

held_step : (t : Bool) (c n : ℕ) (d : Listing) (ls : List Listing) → leb c d.last ≡ t → Begun c ls n × AreRising ls → n ≤ length ls → 0 < n → d ≡ get_or ls (n - 1) d → t ≡ is_listed (map span_of ls) c
held_step true c n d ls e found bound full is =
    sym (listed_some c n (n - 1) d ls found.0 (omega arith) bound (let l = leb-true c d.last e in let same = ap (λ (k : Listing). k.last) is in omega arith))
held_step false c n d ls e found bound full is =
    sym (listed_none c n ls found.0 found.1
    (λ other k at. let l = leb-false c d.last e in
    let place : k ≡ n - 1 = omega arith in
    let same = ap (λ (j : Listing). j.last) (is ∙ get_or_default ls (n - 1) d other (omega arith) ∙ ap (λ i. get_or ls i other) (sym place)) in
    omega arith)
    bound)

pub held : (c n : ℕ) (d : Listing) (ls : List Listing) → Begun c ls n × AreRising ls → n ≤ length ls → 0 < n → d ≡ get_or ls (n - 1) d → leb c d.last ≡ is_listed (map span_of ls) c
held c n d ls found bound full is = held_step (leb c d.last) c n d ls refl found bound full is

pub not_held : (c n : ℕ) (ls : List Listing) → Begun c ls n × AreRising ls → n ≤ length ls → n ≤ 0 → ltb 0 n ≡ is_listed (map span_of ls) c
not_held c n ls found bound none =
    le-ltb 0 n none ∙ sym (listed_none c n ls found.0 found.1 (λ d k at. absurd (omega arith)) bound)

-- another order lists the same
pub sorted_lists_same : (old new : List Listing) (c : ℕ) → IsPermutation old new → is_listed (map span_of new) c ≡ is_listed (map span_of old) c
sorted_lists_same old new c h = any_map new c ∙ sym (list_any-IsPermutation (lists c) old new h) ∙ sym (any_map old c)
