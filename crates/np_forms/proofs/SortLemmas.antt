-- A stable sort of non-starters by their classes puts them in canonical order.
use Rattle.std.proofs.Common.{◌≡◌, ℕ, ◌<◌, ◌≤◌, Bool, true, not, ◌&&◌, ◌==◌, List, [], ◌∷◌, ◌++◌, refl, sym, ap, ap₂, ◌∙◌, arith, inl, inr, eqb-true, eq-eqb, ◌+◌, length, take, drop, get_or, append_assoc, append-nil, length-append}
use Rattle.np_forms.proofs.Words.{cases_Bool, cases_order, cond-true, cond-false, and_parts, not-true, ne_eqb, and_from, nat_tests, list_all, filter}
use Rattle.np_forms.proofs.Words.{is_reorderable, is_ordered, canonical_order, CodeAndClass, with_class, with_classes, is_starter, is_non_starter}
use Rattle.np_forms.proofs.Words.{VersionData, class_of, take_all, drop_all, take_at, drop_at, length-take, length-drop, drop-drop, get_or-drop}
use Rattle.np_forms.proofs.Words.{take-append-drop}
use Rattle.std.proofs.lemmas.List.Elements.{filter-append, filter_agree}
use Rattle.std.proofs.lemmas.List.Sorted.{IsNonDecreasingBy-drop}
use Rattle.std.specs.List.Sorted.{IsNonDecreasingBy, IsStableByKey, ties}
use Rattle.std.specs.Ordering.{nat_cmp, is_lt}
use Rattle.np_versions.proofs.MappingLemmas.{list_all-append}
use Rattle.np_forms.proofs.OrderLemmas.{is_reorderable-true, is_reorderable-false, is_ordered-parts, is_ordered-canonical_order, list_all-canonical_order, canonical_order-keeps, is_ordered-nil, is_ordered-one, is_ordered-cons, not_reorderable_rising, canonical_order-nil, canonical_order-at_starter, length-canonical_order}
use Rattle.np_forms.proofs.ComposeLemmas.{is_starter-false, not_starter_from}

-- ---- elements of any type, by a number of each

module _ {X : Type 0} (key : X → ℕ) where
  abbrev same_key : X → X → Bool
  same_key x y = key x == key y

  -- the numbers never go down
  abbrev Rises : List X → Type 0
  Rises [] = Unit {0}
  Rises (c ∷ []) = Unit {0}
  Rises (c ∷ d ∷ ds) = (key c ≤ key d) × Rises (d ∷ ds)

  -- each number has the same members in the same order
  abbrev AreAlike : List X → List X → Type 0
  AreAlike us vs = (x : X) → filter (same_key x) us ≡ filter (same_key x) vs

  -- a last part rises
  Rises-tail : (c : X) (cs : List X) → Rises (c ∷ cs) → Rises cs
  Rises-tail c [] h = tt
  Rises-tail c (d ∷ ds) h = h.1

  -- what a sort gives rises
  Rises-non_decreasing : (cs : List X) → IsNonDecreasingBy key cs → Rises cs
  Rises-non_decreasing [] h = tt
  Rises-non_decreasing (c ∷ []) h = tt
  Rises-non_decreasing (c ∷ d ∷ ds) h = (h 0 1 c (omega arith) (omega arith), Rises-non_decreasing (d ∷ ds) (IsNonDecreasingBy-drop key 1 (c ∷ d ∷ ds) h))

  -- ---- lists that rise and are alike are one

  -- the first is the first of its number
  filter_head : (c : X) (cs : List X) → filter (same_key c) (c ∷ cs) ≡ c ∷ filter (same_key c) cs
  filter_head c cs = cond-true _ _ _ (eq-eqb (key c) (key c) refl)

  -- no member of a number below the first
  filter_below : (x c : X) (cs : List X) → Rises (c ∷ cs) → key x < key c → filter (same_key x) (c ∷ cs) ≡ []
  filter_below x c [] h lt = cond-false _ _ _ (ne_eqb (key x) (key c) (λ e. omega arith))
  filter_below x c (d ∷ ds) h lt = cond-false _ _ _ (ne_eqb (key x) (key c) (λ e. omega arith)) ∙ filter_below x d ds h.1 (omega (arith, h.0))

  -- so the first of one is no lower than that of the other
  no_lower : (u : X) (us : List X) (v : X) (vs : List X) → Rises (v ∷ vs) → AreAlike (u ∷ us) (v ∷ vs) → key u < key v → ⊥
  no_lower u us v vs rises alike lt = let clash = sym (filter_head u us) ∙ alike u ∙ filter_below u v vs rises lt in cc

  -- alike with equal first elements, alike behind them
  AreAlike-tail : (u v : X) (us vs : List X) → u ≡ v → AreAlike (u ∷ us) (v ∷ vs) → AreAlike us vs
  AreAlike-tail u v us vs e alike x =
      let f = same_key x in
      let both : filter f (u ∷ us) ≡ filter f (u ∷ vs) = alike x ∙ ap (λ w. filter f (w ∷ vs)) (sym e) in
      elim (cases_Bool (f u)) [
        | inl on ↦ (let same = sym (cond-true _ _ _ on) ∙ both ∙ cond-true _ _ _ on in cc)
        | inr off ↦ sym (cond-false _ _ _ off) ∙ both ∙ cond-false _ _ _ off
      ]

  -- from the front on, each element is the same
  one_list : (us vs : List X) → Rises us → Rises vs → AreAlike us vs → us ≡ vs
  one_list [] [] of_us of_vs alike = refl
  one_list [] (v ∷ vs) of_us of_vs alike = let clash = alike v ∙ filter_head v vs in cc
  one_list (u ∷ us) [] of_us of_vs alike = let clash = sym (filter_head u us) ∙ alike u in cc
  one_list (u ∷ us) (v ∷ vs) of_us of_vs alike =
      elim (cases_order (key u) (key v)) [
        | inl same ↦
            let first = sym (filter_head u us) ∙ alike u ∙ cond-true _ _ _ (eq-eqb (key u) (key v) same) in
            let head : u ≡ v = cc in
            ap₂ (λ c cs. c ∷ cs) head (one_list us vs (Rises-tail u us of_us) (Rises-tail v vs of_vs) (AreAlike-tail u v us vs head alike))
        | inr other ↦ elim other [ inl lower ↦ absurd (no_lower u us v vs of_vs alike lower) | inr higher ↦ absurd (no_lower v vs u us of_us (λ x. sym (alike x)) higher) ]
      ]

  -- two numbers tie where they are equal
  ties_is : (m n : ℕ) → (not (is_lt (nat_cmp m n)) && not (is_lt (nat_cmp n m))) ≡ (m == n)
  ties_is m n = grind (arith, nat_tests)

  -- a stable sort keeps each number
  AreAlike-stable : (xs ys : List X) → IsStableByKey key nat_cmp xs ys → AreAlike ys xs
  AreAlike-stable xs ys stable x =
      let tied = ties (λ (a b : X). is_lt (nat_cmp (key a) (key b))) x in
      let agree : (y : X) → tied y ≡ same_key x y = λ y. ties_is (key x) (key y) in
      sym (filter_agree tied (same_key x) agree ys) ∙ stable x ∙ filter_agree tied (same_key x) agree xs

-- ---- canonical order keeps each class

module _ (ccc : ℕ → ℕ) where
  abbrev of_class : ℕ → ℕ → Bool
  of_class k c = k == ccc c

  -- a reorderable pair is of two classes
  filter_exchange : (k a b : ℕ) (cs : List ℕ) → is_reorderable ccc a b ≡ true → filter (of_class k) (a ∷ b ∷ cs) ≡ filter (of_class k) (b ∷ a ∷ cs)
  filter_exchange k a b cs pair =
      elim (cases_Bool (of_class k a)) [
        | inl on ↦
            let falls = is_reorderable-true ccc a b pair in
            let same = eqb-true k (ccc a) on in
            let off = ne_eqb k (ccc b) (λ e. omega arith) in
            simp (on, off)
        | inr off ↦ simp off
      ]

  filter-canonical_order : (k : ℕ) (cs : List ℕ) → filter (of_class k) (canonical_order ccc cs) ≡ filter (of_class k) cs
  filter-canonical_order k cs =
      canonical_order-keeps ccc (filter (of_class k))
      (λ us a b vs pair.
      filter-append (of_class k) us (a ∷ b ∷ vs) ∙ ap (λ l. filter (of_class k) us ++ l) (filter_exchange k a b vs pair)
      ∙ sym (filter-append (of_class k) us (b ∷ a ∷ vs)))
      cs

-- ---- code points beside their classes

module _ (v : VersionData) where
  abbrev ccc_of : ℕ → ℕ
  ccc_of = class_of v

  abbrev class : CodeAndClass → ℕ
  class x = x.class

  -- ordered non-starters rise
  Rises-ordered : (cs : List ℕ) → is_ordered ccc_of cs ≡ true → list_all (λ c. not (is_starter ccc_of c)) cs ≡ true → Rises class (with_classes v cs)
  Rises-ordered [] h non_starters = tt
  Rises-ordered (c ∷ []) h non_starters = tt
  Rises-ordered (c ∷ d ∷ ds) h non_starters =
      let both = is_ordered-parts ccc_of c d ds h in
      let later = (and_parts (not (is_starter ccc_of c)) (list_all (λ m. not (is_starter ccc_of m)) (d ∷ ds)) non_starters).1 in
      let non_starter = is_starter-false ccc_of d (not-true _ (and_parts (not (is_starter ccc_of d)) (list_all (λ m. not (is_starter ccc_of m)) ds) later).0) in
      (elim (is_reorderable-false ccc_of c d both.0) [ inl low ↦ absurd (omega arith) | inr up ↦ up ], Rises-ordered (d ∷ ds) both.1 later)

  -- what has a class, beside the class or alone
  filter-with_classes : (k : ℕ) (cs : List ℕ) → filter (λ (y : CodeAndClass). k == y.class) (with_classes v cs) ≡ with_classes v (filter (of_class ccc_of k) cs)
  filter-with_classes k [] = refl
  filter-with_classes k (c ∷ cs) =
      let p = λ (y : CodeAndClass). k == y.class in
      elim (cases_Bool (of_class ccc_of k c)) [
        | inl on ↦ cond-true _ _ _ on ∙ ap (λ l. with_class v c ∷ l) (filter-with_classes k cs) ∙ ap (with_classes v) (sym (cond-true _ _ _ on))
        | inr off ↦ cond-false _ _ _ off ∙ filter-with_classes k cs ∙ ap (with_classes v) (sym (cond-false _ _ _ off))
      ]

  -- so a stable sort of non-starters gives their canonical order
  pub canonical_order-from_sort : (cs : List ℕ) (ys : List CodeAndClass) → list_all (λ c. not (is_starter ccc_of c)) cs ≡ true → IsNonDecreasingBy class ys → IsStableByKey class nat_cmp (with_classes v cs) ys → ys ≡ with_classes v (canonical_order ccc_of cs)
  canonical_order-from_sort cs ys non_starters rises stable =
      one_list class ys (with_classes v (canonical_order ccc_of cs)) (Rises-non_decreasing class ys rises)
      (Rises-ordered (canonical_order ccc_of cs) (is_ordered-canonical_order ccc_of cs) (list_all-canonical_order ccc_of (λ c. not (is_starter ccc_of c)) cs non_starters))
      (λ x.
      AreAlike-stable class (with_classes v cs) ys stable x
      ∙ filter-with_classes x.class cs ∙ ap (with_classes v) (sym (filter-canonical_order ccc_of x.class cs))
      ∙ sym (filter-with_classes x.class (canonical_order ccc_of cs)))

-- ---- canonical order, run of non-starters by run

-- a run of non-starters, of which the last has class `last` (0 where there is none), in canonical order where `ordered`
pub record IsRunTo (v : VersionData) (run : List ℕ) (last : ℕ) (ordered : Bool) : Type 0 where
  pub non_starters : list_all (is_non_starter v) run ≡ true
  pub rises : ordered ≡ true → (is_ordered (class_of v) run ≡ true) × ((c : ℕ) → last ≤ class_of v c → is_ordered (class_of v) (run ++ c ∷ []) ≡ true)

module _ (v : VersionData) where
  abbrev ccc : ℕ → ℕ
  ccc = class_of v

  is_ordered-more : (run : List ℕ) (c d : ℕ) → is_ordered ccc (run ++ c ∷ []) ≡ true → ccc c ≤ ccc d → is_ordered ccc ((run ++ c ∷ []) ++ d ∷ []) ≡ true
  is_ordered-more [] c d h le = is_ordered-cons ccc c d [] (not_reorderable_rising ccc c d le) (is_ordered-one ccc d)
  is_ordered-more (a ∷ []) c d h le =
      let both = is_ordered-parts ccc a c [] h in is_ordered-cons ccc a c (d ∷ []) both.0 (is_ordered-more [] c d both.1 le)
  is_ordered-more (a ∷ b ∷ bs) c d h le =
      let both = is_ordered-parts ccc a b (bs ++ c ∷ []) h in
      is_ordered-cons ccc a b ((bs ++ c ∷ []) ++ d ∷ []) both.0 (is_ordered-more (b ∷ bs) c d both.1 le)

  pub IsRunTo-start : IsRunTo v [] 0 true
  IsRunTo-start = record { non_starters = refl; rises = λ h. (is_ordered-nil ccc, λ c _. is_ordered-one ccc c) }

  pub IsRunTo-next : (run : List ℕ) (last : ℕ) (old : Bool) (c : ℕ) (new : Bool) → IsRunTo v run last old → 0 < ccc c → (new ≡ true → (old ≡ true) × (last ≤ ccc c)) → IsRunTo v (run ++ c ∷ []) (ccc c) new
  IsRunTo-next run last old c new r non_starter stays =
      record {
        non_starters = list_all-append (is_non_starter v) run (c ∷ []) r.non_starters (and_from _ _ (ap not (not_starter_from ccc c non_starter)) refl);
        rises = λ h.
            let was = stays h in
            let now = (r.rises was.0).1 c was.1 in
            (now, λ d le. is_ordered-more run c d now le);
      }

  -- a run was put in order, and what follows it is empty or begins with a starter
  run_done : (done non_starters sorted tail : List ℕ) (k : ℕ) → sorted ≡ canonical_order ccc non_starters → (0 < length tail → ccc (get_or tail 0 0) ≡ 0) → k ≡ length done + (length non_starters + 1) → done ++ canonical_order ccc (non_starters ++ tail) ≡ take k (done ++ (sorted ++ tail)) ++ canonical_order ccc (drop k (done ++ (sorted ++ tail)))
  run_done done non_starters sorted [] k order starter place =
      let same : length sorted ≡ length non_starters = ap length order ∙ length-canonical_order ccc non_starters in
      let whole = done ++ (sorted ++ []) in
      let fits : length whole ≤ k = omega (arith, place, same, length-append done (sorted ++ []), length-append sorted []) in
      ap (λ l. done ++ l) (ap (canonical_order ccc) (append-nil non_starters) ∙ sym order ∙ sym (append-nil sorted))
      ∙ sym (append-nil whole) ∙ ap (λ l. whole ++ l) (sym (canonical_order-nil ccc))
      ∙ ap (λ l. l ++ canonical_order ccc []) (sym (take_all k whole fits)) ∙ ap (λ l. take k whole ++ canonical_order ccc l) (sym (drop_all k whole fits))
  run_done done non_starters sorted (s ∷ more) k order starter place =
      let same : length sorted ≡ length non_starters = ap length order ∙ length-canonical_order ccc non_starters in
      let front = done ++ (sorted ++ s ∷ []) in
      let shown : done ++ (sorted ++ s ∷ more) ≡ front ++ more = ap (λ l. done ++ l) (sym (append_assoc sorted (s ∷ []) more)) ∙ sym (append_assoc done (sorted ++ s ∷ []) more) in
      let long : length front ≡ k = omega (arith, place, same, length-append done (sorted ++ s ∷ []), length-append sorted (s ∷ [])) in
      let low : ccc s ≤ 0 = omega (arith, starter (omega arith)) in
      ap (λ l. done ++ l) (canonical_order-at_starter ccc non_starters s more low ∙ ap (λ l. l ++ s ∷ canonical_order ccc more) (sym order) ∙ sym (append_assoc sorted (s ∷ []) (canonical_order ccc more)))
      ∙ sym (append_assoc done (sorted ++ s ∷ []) (canonical_order ccc more))
      ∙ ap (λ l. l ++ canonical_order ccc more) (sym (take_at front more k long)) ∙ ap (λ l. take k (front ++ more) ++ canonical_order ccc l) (sym (drop_at front more k long))
      ∙ ap (λ l. take k l ++ canonical_order ccc (drop k l)) (sym shown)

  -- one step of the pass: the run at `at` has n code points
  pub order_step : (old new sorted : List ℕ) (at n : ℕ) → at < length old → n ≤ length (drop at old) → (n < length (drop at old) → ccc (get_or (drop at old) n 0) ≡ 0) → sorted ≡ canonical_order ccc (take n (drop at old)) → new ≡ take at old ++ (sorted ++ drop (at + n) old) → take at old ++ canonical_order ccc (drop at old) ≡ take (at + (n + 1)) new ++ canonical_order ccc (drop (at + (n + 1)) new)
  order_step old new sorted at n inside bound starter order is =
      let rest = drop at old in
      let tail = drop (at + n) old in
      let split : take n rest ++ tail ≡ rest = ap (λ l. take n rest ++ l) (sym (drop-drop n at old)) ∙ take-append-drop n rest in
      let sizes : at + (n + 1) ≡ length (take at old) + (length (take n rest) + 1) = omega (arith, length-take at old, length-take n rest) in
      let first : 0 < length tail → ccc (get_or tail 0 0) ≡ 0 = λ some.
      ap ccc (ap (λ l. get_or l 0 0) (sym (drop-drop n at old)) ∙ get_or-drop n rest 0 0 ∙ ap (λ k. get_or rest k 0) (let e : n + 0 ≡ n = omega arith in e))
      ∙ starter (omega (arith, ap length (drop-drop n at old), length-drop n rest)) in
      ap (λ l. take at old ++ canonical_order ccc l) (sym split) ∙ run_done (take at old) (take n rest) sorted tail (at + (n + 1)) order first sizes
      ∙ ap (λ l. take (at + (n + 1)) l ++ canonical_order ccc (drop (at + (n + 1)) l)) (sym is)
