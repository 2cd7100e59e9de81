-- Canonical ordering: sliding a code point into place, what exchanges keep, and lists of code points beside their classes.
use Rattle.std.proofs.Common.{◌≡◌, ℕ, ◌<◌, ◌≤◌, ◌⊎◌, Bool, true, false, not, ◌&&◌, nat_lt, List, [], ◌∷◌, ◌++◌, length, refl, sym, ap, ◌∙◌, arith, inl, inr}
use Rattle.std.proofs.Common.{append_assoc, length-append, ◌+◌, get_or, take, drop, ap₂}
use Rattle.std.proofs.lemmas.List.Folds.{list_all-append}
use Rattle.np_forms.proofs.Words.{cases_Bool, and_parts, and_from, and_cases, and_left, and_right, not-true, not_from_false, ltb-true, ltb-false, lt-ltb}
use Rattle.np_forms.proofs.Words.{le-ltb, list_all, Reaches, is_reorderable, is_ordered, Exchanges, slide, canonical_order, map-append, map_more, get_or-map}
use Rattle.np_forms.proofs.Words.{length-map, take-map, drop-map, AreClassed, CodeAndClass, codes_of, with_class, with_classes, VersionData}
use Rattle.np_code_points.proofs.StepsLemmas.{stays_at, one_more, join, keeps, along}

module _ (ccc : ℕ → ℕ) where
  -- ---- reorderable pairs

  -- the second is a non-starter, of a lower class than the first
  pub is_reorderable-true : (a b : ℕ) → is_reorderable ccc a b ≡ true → (0 < ccc b) × (ccc b < ccc a)
  unfolding is_reorderable
  is_reorderable-true a b h =
      let both = and_parts (nat_lt 0 (ccc b)) (nat_lt (ccc b) (ccc a)) h in (ltb-true 0 (ccc b) both.0, ltb-true (ccc b) (ccc a) both.1)

  -- the second is a starter, or of no lower class than the first
  pub is_reorderable-false : (a b : ℕ) → is_reorderable ccc a b ≡ false → (ccc b ≤ 0) ⊎ (ccc a ≤ ccc b)
  unfolding is_reorderable
  is_reorderable-false a b h =
      elim (and_cases (nat_lt 0 (ccc b)) (nat_lt (ccc b) (ccc a)) h) [ inl low ↦ inl (ltb-false 0 (ccc b) low) | inr rises ↦ inr (ltb-false (ccc b) (ccc a) rises) ]

  -- a pair, from the two classes
  pub is_reorderable_from : (a b : ℕ) → 0 < ccc b → ccc b < ccc a → is_reorderable ccc a b ≡ true
  unfolding is_reorderable
  is_reorderable_from a b non_starter falls = and_from _ _ (lt-ltb 0 (ccc b) non_starter) (lt-ltb (ccc b) (ccc a) falls)

  -- no pair ends in a starter
  pub not_reorderable_starter : (a b : ℕ) → ccc b ≤ 0 → is_reorderable ccc a b ≡ false
  unfolding is_reorderable
  not_reorderable_starter a b low = and_left _ _ (le-ltb 0 (ccc b) low)

  -- nor in a code point of no lower class
  pub not_reorderable_rising : (a b : ℕ) → ccc a ≤ ccc b → is_reorderable ccc a b ≡ false
  unfolding is_reorderable
  not_reorderable_rising a b rises = and_right _ _ (le-ltb (ccc b) (ccc a) rises)

  -- the other way round it is none
  not_reorderable_back : (a b : ℕ) → is_reorderable ccc a b ≡ true → is_reorderable ccc b a ≡ false
  not_reorderable_back a b h = let falls = is_reorderable-true a b h in not_reorderable_rising b a (omega arith)

  -- pairs chain
  is_reorderable-trans : (a b c : ℕ) → is_reorderable ccc a b ≡ true → is_reorderable ccc b c ≡ true → is_reorderable ccc a c ≡ true
  is_reorderable-trans a b c first second =
      let falls = is_reorderable-true a b first in
      let further = is_reorderable-true b c second in
      is_reorderable_from a c further.0 (omega arith)

  -- a non-starter may be left out between two that do not go down
  not_reorderable_over : (a m b : ℕ) → 0 < ccc m → is_reorderable ccc a m ≡ false → is_reorderable ccc m b ≡ false → is_reorderable ccc a b ≡ false
  not_reorderable_over a m b non_starter first second =
      elim (is_reorderable-false m b second) [
        | inl low ↦ not_reorderable_starter a b low
        | inr rises ↦ elim (is_reorderable-false a m first) [ inl none ↦ absurd (omega arith) | inr before ↦ not_reorderable_rising a b (omega arith) ]
      ]

  -- ---- ordered lists

  -- the empty list is ordered
  pub is_ordered-nil : is_ordered ccc [] ≡ true
  unfolding is_ordered
  is_ordered-nil = refl

  -- so is a list of one
  pub is_ordered-one : (a : ℕ) → is_ordered ccc (a ∷ []) ≡ true
  unfolding is_ordered
  is_ordered-one a = refl

  -- a code point may stand before one with which it is no reorderable pair
  pub is_ordered-cons : (a b : ℕ) (cs : List ℕ) → is_reorderable ccc a b ≡ false → is_ordered ccc (b ∷ cs) ≡ true → is_ordered ccc (a ∷ b ∷ cs) ≡ true
  unfolding is_ordered
  is_ordered-cons a b cs apart rest = and_from _ _ (not_from_false _ apart) rest

  -- neighbors in an ordered list are no reorderable pair
  pub is_ordered-parts : (a b : ℕ) (cs : List ℕ) → is_ordered ccc (a ∷ b ∷ cs) ≡ true → (is_reorderable ccc a b ≡ false) × (is_ordered ccc (b ∷ cs) ≡ true)
  unfolding is_ordered
  is_ordered-parts a b cs h = let both = and_parts (not (is_reorderable ccc a b)) (is_ordered ccc (b ∷ cs)) h in (not-true _ both.0, both.1)

  -- what follows the first code point of an ordered list is ordered
  pub is_ordered-tail : (a : ℕ) (cs : List ℕ) → is_ordered ccc (a ∷ cs) ≡ true → is_ordered ccc cs ≡ true
  is_ordered-tail a [] h = is_ordered-nil
  is_ordered-tail a (c ∷ cs) h = (is_ordered-parts a c cs h).1

  -- a first part is ordered
  pub is_ordered-front : (xs ys : List ℕ) → is_ordered ccc (xs ++ ys) ≡ true → is_ordered ccc xs ≡ true
  is_ordered-front [] ys h = is_ordered-nil
  is_ordered-front (x ∷ []) ys h = is_ordered-one x
  is_ordered-front (x ∷ y ∷ xs) ys h = let both = is_ordered-parts x y (xs ++ ys) h in is_ordered-cons x y xs both.0 (is_ordered-front (y ∷ xs) ys both.1)

  -- a last part is ordered
  pub is_ordered-back : (xs ys : List ℕ) → is_ordered ccc (xs ++ ys) ≡ true → is_ordered ccc ys ≡ true
  is_ordered-back [] ys h = h
  is_ordered-back (x ∷ xs) ys h = is_ordered-back xs ys (is_ordered-tail x (xs ++ ys) h)

  -- a non-starter may be left out
  pub is_ordered-without_non_starter : (xs : List ℕ) (m : ℕ) (ys : List ℕ) → 0 < ccc m → is_ordered ccc (xs ++ m ∷ ys) ≡ true → is_ordered ccc (xs ++ ys) ≡ true
  is_ordered-without_non_starter [] m ys non_starter h = is_ordered-tail m ys h
  is_ordered-without_non_starter (x ∷ []) m [] non_starter h = is_ordered-one x
  is_ordered-without_non_starter (x ∷ []) m (y ∷ ys) non_starter h =
      let first = is_ordered-parts x m (y ∷ ys) h in
      let second = is_ordered-parts m y ys first.1 in
      is_ordered-cons x y ys (not_reorderable_over x m y non_starter first.0 second.0) second.1
  is_ordered-without_non_starter (x ∷ z ∷ xs) m ys non_starter h =
      let both = is_ordered-parts x z (xs ++ m ∷ ys) h in is_ordered-cons x z (xs ++ ys) both.0 (is_ordered-without_non_starter (z ∷ xs) m ys non_starter both.1)

  -- ---- sliding

  -- nothing follows
  pub slide-nil : (c : ℕ) → slide ccc c [] ≡ c ∷ []
  unfolding slide
  slide-nil c = refl

  -- c slides over a code point with which it is a reorderable pair
  pub slide-over : (c d : ℕ) (ds : List ℕ) → is_reorderable ccc c d ≡ true → slide ccc c (d ∷ ds) ≡ d ∷ slide ccc c ds
  unfolding slide
  slide-over c d ds h = rw h

  -- c stays before a code point with which it is no reorderable pair
  pub slide-stays : (c d : ℕ) (ds : List ℕ) → is_reorderable ccc c d ≡ false → slide ccc c (d ∷ ds) ≡ c ∷ d ∷ ds
  unfolding slide
  slide-stays c d ds h = rw h

  -- c stays where it is in order already
  slide-ordered : (c : ℕ) (ds : List ℕ) → is_ordered ccc (c ∷ ds) ≡ true → slide ccc c ds ≡ c ∷ ds
  unfolding slide
  slide-ordered c [] h = refl
  slide-ordered c (d ∷ ds) h = slide-stays c d ds (is_ordered-parts c d ds h).0

  -- a starter stays
  pub slide-starter : (s : ℕ) (ds : List ℕ) → ccc s ≤ 0 → slide ccc s ds ≡ s ∷ ds
  unfolding slide
  slide-starter s [] low = refl
  slide-starter s (d ∷ ds) low = slide-stays s d ds (not_reorderable_rising s d (omega arith))

  -- two that are a reorderable pair may slide in either order
  slide_exchange : (a b : ℕ) (zs : List ℕ) → is_reorderable ccc a b ≡ true → slide ccc a (slide ccc b zs) ≡ slide ccc b (slide ccc a zs)
  unfolding slide
  slide_exchange a b [] pair = let back = not_reorderable_back a b pair in simp (pair, back)
  slide_exchange a b (z ∷ zs) pair =
      let back = not_reorderable_back a b pair in
      elim (cases_Bool (is_reorderable ccc b z)) [
        | inl past ↦
            let too = is_reorderable-trans a b z pair past in
            let rest = slide_exchange a b zs pair in
            simp (past, too, rest)
        | inr stays ↦ elim (cases_Bool (is_reorderable ccc a z)) [ inl past ↦ simp (stays, pair, past) | inr too ↦ simp (stays, pair, too, back) ]
      ]

  -- nothing slides over a starter
  slide-before_starter : (c : ℕ) (xs : List ℕ) (s : ℕ) (ys : List ℕ) → ccc s ≤ 0 → slide ccc c (xs ++ s ∷ ys) ≡ slide ccc c xs ++ s ∷ ys
  unfolding slide
  slide-before_starter c [] s ys low = slide-stays c s ys (not_reorderable_starter c s low)
  slide-before_starter c (x ∷ xs) s ys low =
      let rest = slide-before_starter c xs s ys low in
      elim (cases_Bool (is_reorderable ccc c x)) [ inl past ↦ simp (past, rest) | inr stays ↦ simp stays ]

  -- behind d, c slides to no place before d
  is_ordered-slide_behind : (d c : ℕ) (ds : List ℕ) → is_reorderable ccc d c ≡ false → is_ordered ccc (d ∷ ds) ≡ true → is_ordered ccc (slide ccc c ds) ≡ true → is_ordered ccc (d ∷ slide ccc c ds) ≡ true
  unfolding slide
  is_ordered-slide_behind d c [] apart h slid = is_ordered-cons d c [] apart slid
  is_ordered-slide_behind d c (e ∷ es) apart h slid =
      elim (cases_Bool (is_reorderable ccc c e)) [
        | inl past ↦ rw past (is_ordered-cons d e (slide ccc c es) (is_ordered-parts d e es h).0 (rw past at slid))
        | inr stays ↦ rw stays (is_ordered-cons d c (e ∷ es) apart (rw stays at slid))
      ]

  -- what slides into an ordered list keeps it ordered
  is_ordered-slide : (c : ℕ) (ds : List ℕ) → is_ordered ccc ds ≡ true → is_ordered ccc (slide ccc c ds) ≡ true
  unfolding slide
  is_ordered-slide c [] h = is_ordered-one c
  is_ordered-slide c (d ∷ ds) h =
      elim (cases_Bool (is_reorderable ccc c d)) [
        | inl past ↦ rw past (is_ordered-slide_behind d c ds (not_reorderable_back c d past) h (is_ordered-slide c ds (is_ordered-tail d ds h)))
        | inr stays ↦ rw stays (is_ordered-cons c d ds stays h)
      ]

  -- ---- canonical order

  -- an empty list stays empty
  pub canonical_order-nil : canonical_order ccc [] ≡ []
  unfolding canonical_order
  canonical_order-nil = refl

  -- the canonical order is ordered
  pub is_ordered-canonical_order : (cs : List ℕ) → is_ordered ccc (canonical_order ccc cs) ≡ true
  unfolding canonical_order
  is_ordered-canonical_order [] = is_ordered-nil
  is_ordered-canonical_order (c ∷ cs) = is_ordered-slide c (canonical_order ccc cs) (is_ordered-canonical_order cs)

  -- an ordered list is its own canonical order
  pub canonical_order-ordered : (cs : List ℕ) → is_ordered ccc cs ≡ true → canonical_order ccc cs ≡ cs
  unfolding canonical_order
  canonical_order-ordered [] h = refl
  canonical_order-ordered (c ∷ cs) h = ap (slide ccc c) (canonical_order-ordered cs (is_ordered-tail c cs h)) ∙ slide-ordered c cs h

  -- a starter parts the order
  pub canonical_order-at_starter : (xs : List ℕ) (s : ℕ) (ys : List ℕ) → ccc s ≤ 0 → canonical_order ccc (xs ++ s ∷ ys) ≡ canonical_order ccc xs ++ s ∷ canonical_order ccc ys
  unfolding canonical_order
  canonical_order-at_starter [] s ys low = slide-starter s (canonical_order ccc ys) low
  canonical_order-at_starter (x ∷ xs) s ys low =
      ap (slide ccc x) (canonical_order-at_starter xs s ys low) ∙ slide-before_starter x (canonical_order ccc xs) s (canonical_order ccc ys) low

  -- two lists that have one order have one order behind xs too
  pub canonical_order-behind : (xs ys zs : List ℕ) → canonical_order ccc ys ≡ canonical_order ccc zs → canonical_order ccc (xs ++ ys) ≡ canonical_order ccc (xs ++ zs)
  unfolding canonical_order
  canonical_order-behind [] ys zs h = h
  canonical_order-behind (x ∷ xs) ys zs h = ap (slide ccc x) (canonical_order-behind xs ys zs h)

  -- a reorderable pair may change places
  pub canonical_order-exchange : (xs : List ℕ) (a b : ℕ) (ys : List ℕ) → is_reorderable ccc a b ≡ true → canonical_order ccc (xs ++ a ∷ b ∷ ys) ≡ canonical_order ccc (xs ++ b ∷ a ∷ ys)
  unfolding canonical_order
  canonical_order-exchange xs a b ys pair = canonical_order-behind xs (a ∷ b ∷ ys) (b ∷ a ∷ ys) (slide_exchange a b (canonical_order ccc ys) pair)

  -- c may stand on either side of those with each of which it is a reorderable pair
  pub canonical_order-over : (c : ℕ) (bs cs : List ℕ) → list_all (is_reorderable ccc c) bs ≡ true → canonical_order ccc (c ∷ (bs ++ cs)) ≡ canonical_order ccc (bs ++ c ∷ cs)
  unfolding canonical_order
  canonical_order-over c [] cs free = refl
  canonical_order-over c (b ∷ bs) cs free =
      let both = and_parts (is_reorderable ccc c b) (list_all (is_reorderable ccc c) bs) free in
      slide_exchange c b (canonical_order ccc (bs ++ cs)) both.0 ∙ ap (slide ccc b) (canonical_order-over c bs cs both.1)

  -- ---- exchanges lead to the canonical order

  -- exchanges behind x
  reaches_behind : (x : ℕ) (xs ys : List ℕ) → Reaches (Exchanges ccc) xs ys → Reaches (Exchanges ccc) (x ∷ xs) (x ∷ ys)
  reaches_behind x =
      along (Exchanges ccc) (λ l. x ∷ l)
      (λ us vs e. record { before = x ∷ e.before; a = e.a; b = e.b; after = e.after; pair = e.pair; old = ap (λ l. x ∷ l) e.old; new = ap (λ l. x ∷ l) e.new })

  -- a slide is some exchanges
  reaches_slide : (c : ℕ) (ds : List ℕ) → Reaches (Exchanges ccc) (c ∷ ds) (slide ccc c ds)
  unfolding slide
  reaches_slide c [] = stays_at (Exchanges ccc) _ _ refl
  reaches_slide c (d ∷ ds) =
      elim (cases_Bool (is_reorderable ccc c d)) [
        | inl past ↦
            let first : Exchanges ccc (c ∷ d ∷ ds) (d ∷ c ∷ ds) = record { before = []; a = c; b = d; after = ds; pair = past; old = refl; new = refl } in
            rw past (one_more (Exchanges ccc) (c ∷ d ∷ ds) (d ∷ c ∷ ds) (d ∷ slide ccc c ds) first (reaches_behind d (c ∷ ds) (slide ccc c ds) (reaches_slide c ds)))
        | inr stays ↦ rw stays (stays_at (Exchanges ccc) _ _ refl)
      ]

  -- exchanges lead to the canonical order
  pub reaches_canonical_order : (xs : List ℕ) → Reaches (Exchanges ccc) xs (canonical_order ccc xs)
  unfolding canonical_order
  reaches_canonical_order [] = stays_at (Exchanges ccc) _ _ refl
  reaches_canonical_order (x ∷ xs) =
      join (Exchanges ccc) (x ∷ xs) (x ∷ canonical_order ccc xs) (canonical_order ccc (x ∷ xs))
      (reaches_behind x xs (canonical_order ccc xs) (reaches_canonical_order xs)) (reaches_slide x (canonical_order ccc xs))

  -- what each exchange keeps, the canonical order keeps
  pub canonical_order-keeps : {B : Type 0} (f : List ℕ → B) → ((us : List ℕ) (a b : ℕ) (vs : List ℕ) → is_reorderable ccc a b ≡ true → f (us ++ a ∷ b ∷ vs) ≡ f (us ++ b ∷ a ∷ vs)) → (xs : List ℕ) → f (canonical_order ccc xs) ≡ f xs
  canonical_order-keeps f kept xs =
      sym (keeps (Exchanges ccc) f (λ us vs e. ap f e.old ∙ kept e.before e.a e.b e.after e.pair ∙ ap f (sym e.new)) xs (canonical_order ccc xs) (reaches_canonical_order xs))

  -- a first part may be ordered first
  pub canonical_order-front : (xs ys : List ℕ) → canonical_order ccc (canonical_order ccc xs ++ ys) ≡ canonical_order ccc (xs ++ ys)
  canonical_order-front xs ys =
      canonical_order-keeps (λ l. canonical_order ccc (l ++ ys))
      (λ us a b vs pair.
      ap (canonical_order ccc) (append_assoc us (a ∷ b ∷ vs) ys) ∙ canonical_order-exchange us a b (vs ++ ys) pair
      ∙ ap (canonical_order ccc) (sym (append_assoc us (b ∷ a ∷ vs) ys)))
      xs

  -- two tests of three may change places
  and_swap : (x y z : Bool) → (x && (y && z)) ≡ (y && (x && z))
  and_swap true y z = refl
  and_swap false true z = refl
  and_swap false false z = refl

  -- a test of each code point is kept
  pub list_all-canonical_order : (p : ℕ → Bool) (cs : List ℕ) → list_all p cs ≡ true → list_all p (canonical_order ccc cs) ≡ true
  list_all-canonical_order p cs all =
      canonical_order-keeps (list_all p)
      (λ us a b vs pair.
      list_all-append p us (a ∷ b ∷ vs) ∙ ap (λ t. list_all p us && t) (and_swap (p a) (p b) (list_all p vs))
      ∙ sym (list_all-append p us (b ∷ a ∷ vs)))
      cs
      ∙ all

  -- the length is kept
  pub length-canonical_order : (cs : List ℕ) → length (canonical_order ccc cs) ≡ length cs
  length-canonical_order cs =
      canonical_order-keeps length (λ us a b vs pair. length-append us (a ∷ b ∷ vs) ∙ sym (length-append us (b ∷ a ∷ vs))) cs

-- ---- lists of code points beside their classes

module _ (v : VersionData) where
  pub codes-with_classes : (cs : List ℕ) → codes_of (with_classes v cs) ≡ cs
  codes-with_classes [] = refl
  codes-with_classes (c ∷ cs) = ap (λ l. c ∷ l) (codes-with_classes cs)

  pub no_codes : (cs : List ℕ) → [] ≡ with_classes v cs → cs ≡ []
  no_codes [] e = refl
  no_codes (c ∷ cs) e = cc

  module _ (list : List CodeAndClass) (cs : List ℕ) (is : list ≡ with_classes v cs) where
    pub same_length : length list ≡ length cs
    same_length = ap length is ∙ length-map cs (with_class v)

    pub at_place : (i : ℕ) (d : CodeAndClass) → i < length list → get_or list i d ≡ with_class v (get_or cs i 0)
    at_place i d lt = ap (λ l. get_or l i d) is ∙ get_or-map (with_class v) cs i 0 d (omega (arith, same_length))

    pub front_part : (n : ℕ) → take n list ≡ with_classes v (take n cs)
    front_part n = ap (take n) is ∙ take-map (with_class v) n cs

    pub back_part : (n : ℕ) → drop n list ≡ with_classes v (drop n cs)
    back_part n = ap (drop n) is ∙ drop-map (with_class v) n cs

    -- a part is put in
    pub put_in : (now : List CodeAndClass) (mid : List ℕ) (at n : ℕ) → now ≡ take at list ++ (with_classes v mid ++ drop (at + n) list) → now ≡ with_classes v (take at cs ++ (mid ++ drop (at + n) cs))
    put_in now mid at n parts =
        parts ∙ ap₂ (λ f b. f ++ (with_classes v mid ++ b)) (front_part at) (back_part (at + n))
        ∙ ap (λ l. with_classes v (take at cs) ++ l) (sym (map-append (with_class v) mid (drop (at + n) cs))) ∙ sym (map-append (with_class v) (take at cs) (mid ++ drop (at + n) cs))

abbrev code : CodeAndClass → ℕ
code x = x.code

module _ (v : VersionData) where
  pub AreClassed-append : (xs ys : List CodeAndClass) → AreClassed v xs → AreClassed v ys → AreClassed v (xs ++ ys)
  AreClassed-append xs ys first second =
      ap₂ (λ f b. f ++ b) first second ∙ sym (map-append (with_class v) (codes_of xs) (codes_of ys)) ∙ ap (with_classes v) (sym (map-append code xs ys))

  pub AreClassed-at : (xs : List CodeAndClass) (i : ℕ) (d : CodeAndClass) → i < length xs → AreClassed v xs → get_or xs i d ≡ with_class v (get_or xs i d).code
  AreClassed-at xs i d lt is =
      let here = at_place v xs (codes_of xs) is i d lt in here ∙ ap (with_class v) (sym (ap code here))

  -- the classes of code points that were looked up
  pub AreClassed-with_classes : (cs : List ℕ) → AreClassed v (with_classes v cs)
  AreClassed-with_classes cs = ap (with_classes v) (sym (codes-with_classes v cs))

-- the code points up to a place, and the one there
pub codes_next : (xs : List CodeAndClass) (i : ℕ) (x : CodeAndClass) → i < length xs → x ≡ get_or xs i x → codes_of (take (i + 1) xs) ≡ codes_of (take i xs) ++ x.code ∷ []
codes_next xs i x lt here = map_more code xs i x lt ∙ ap (λ (y : CodeAndClass). codes_of (take i xs) ++ y.code ∷ []) (sym here)

pub codes-append : (xs ys : List CodeAndClass) → codes_of (xs ++ ys) ≡ codes_of xs ++ codes_of ys
codes-append xs ys = map-append code xs ys

-- one more code point
pub codes_more : (xs : List CodeAndClass) (x : CodeAndClass) → codes_of (xs ++ x ∷ []) ≡ codes_of xs ++ x.code ∷ []
codes_more xs x = map-append code xs (x ∷ [])
