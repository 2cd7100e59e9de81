-- Elements of lists.
use Rattle.std.proofs.Common.{◌≡◌, ℕ, zero, suc, ◌<◌, ◌≤◌, ◌⊎◌, List, [], ◌∷◌, ◌++◌, length, get_or, refl, sym, ap, subst, ◌∙◌, inl, inr, ⊎_elim, arith}
use Rattle.std.specs.List.{All, AllPairs, Contains}

pub contains_here : {X : Type 0} (x : X) (xs : List X) → Contains (x ∷ xs) x
contains_here x xs = (0, omega arith, refl)

pub contains_more : {X : Type 0} (x y : X) (xs : List X) → Contains xs y → Contains (x ∷ xs) y
contains_more x y xs h = let l = h.1 in (suc h.0, omega (arith, l), h.2)

contains_at : {X : Type 0} (x y : X) (xs : List X) (k : ℕ) → k < length (x ∷ xs) → get_or (x ∷ xs) k y ≡ y → (x ≡ y) ⊎ Contains xs y
contains_at x y xs zero l e = inl e
contains_at x y xs (suc k) l e = inr (k, omega arith, e)

pub contains_cases : {X : Type 0} (x y : X) (xs : List X) → Contains (x ∷ xs) y → (x ≡ y) ⊎ Contains xs y
contains_cases x y xs h = contains_at x y xs h.0 h.1 h.2

pub contains_none : {X : Type 0} (x : X) → Contains [] x → ⊥
contains_none x h = let l = h.1 in absurd (omega (arith, l))

pub contains_middle : {X : Type 0} (before : List X) (x : X) (behind : List X) → Contains (before ++ x ∷ behind) x
contains_middle [] x behind = contains_here x behind
contains_middle (b ∷ before) x behind = contains_more b x (before ++ x ∷ behind) (contains_middle before x behind)

pub all_contained : {X : Type 0} (P : X → Type 0) (xs : List X) (x : X) → All P xs → Contains xs x → P x
all_contained P xs x h in' = subst P in'.2 (h in'.0 x in'.1)

-- two lists that end in one element each end in the same one, where they are the same
pub same_end : {X : Type 0} (xs ys : List X) (x y : X) → xs ++ x ∷ [] ≡ ys ++ y ∷ [] → x ≡ y
same_end [] [] x y e = cc
same_end [] (z ∷ []) x y e = absurd (cc)
same_end [] (z ∷ w ∷ ys) x y e = absurd (cc)
same_end (z ∷ []) [] x y e = absurd (cc)
same_end (z ∷ w ∷ xs) [] x y e = absurd (cc)
same_end (z ∷ xs) (w ∷ ys) x y e = same_end xs ys x y (cc)

-- Two lists that rise and have the same elements are one.
module _ (X : Type 0) (key : X → ℕ) where
  abbrev pub Rises : List X → Type 0
  Rises xs = AllPairs (λ x y. key x < key y) xs

  rises_head : (x y : X) (xs : List X) → Rises (x ∷ xs) → Contains xs y → key x < key y
  rises_head x y xs h in' =
      let l = in'.1 in subst (λ z. key x < key z) in'.2 (h 0 (suc in'.0) y (omega arith) (omega (arith, l)))

  rises_tail : (x : X) (xs : List X) → Rises (x ∷ xs) → Rises xs
  rises_tail x xs h = λ i j d lt l. h (suc i) (suc j) d (omega arith) (omega arith)

  same_head : (x y : X) (xs ys : List X) → Rises (x ∷ xs) → Rises (y ∷ ys) → Contains (y ∷ ys) x → Contains (x ∷ xs) y → x ≡ y
  same_head x y xs ys hx hy x_in y_in =
      ⊎_elim (λ same. sym same)
      (λ later. ⊎_elim (λ same. same)
      (λ also. let one = rises_head y x ys hy later in let two = rises_head x y xs hx also in absurd (omega (arith, one, two)))
      (contains_cases x y xs y_in))
      (contains_cases y x ys x_in)

  tail_in : (x y z : X) (xs ys : List X) → x ≡ y → Rises (x ∷ xs) → Contains xs z → Contains (y ∷ ys) z → Contains ys z
  tail_in x y z xs ys same h in' found =
      ⊎_elim
      (λ is. let lt = rises_head x z xs h in' in let e : key x ≡ key z = ap key (same ∙ is) in absurd (omega (arith, lt, e)))
      (λ more. more)
      (contains_cases y z ys found)

  pub same_lists : (xs ys : List X) → Rises xs → Rises ys → ((z : X) → Contains xs z → Contains ys z) → ((z : X) → Contains ys z → Contains xs z) → xs ≡ ys
  same_lists [] [] hx hy to from = refl
  same_lists [] (y ∷ ys) hx hy to from = absurd (contains_none y (from y (contains_here y ys)))
  same_lists (x ∷ xs) [] hx hy to from = absurd (contains_none x (to x (contains_here x xs)))
  same_lists (x ∷ xs) (y ∷ ys) hx hy to from =
      let head : x ≡ y = same_head x y xs ys hx hy (to x (contains_here x xs)) (from y (contains_here y ys)) in
      let tail : xs ≡ ys = same_lists xs ys (rises_tail x xs hx) (rises_tail y ys hy)
      (λ z h. tail_in x y z xs ys head hx h (to z (contains_more x z xs h)))
      (λ z h. tail_in y x z ys xs (sym head) hy h (from z (contains_more y z ys h))) in
      cc

  -- of the elements that are not before it, it has the least key
  pub least_left : (before : List X) (x : X) (behind : List X) (y : X) → Rises (before ++ x ∷ behind) → Contains (before ++ x ∷ behind) y → (Contains before y → ⊥) → key x ≤ key y
  least_left [] x behind y h in' other =
      ⊎_elim (λ same. let e : key x ≡ key y = ap key same in omega arith)
      (λ later. let lt = rises_head x y behind h later in omega arith)
      (contains_cases x y behind in')
  least_left (b ∷ before) x behind y h in' other =
      ⊎_elim (λ same. absurd (other (subst (Contains (b ∷ before)) same (contains_here b before))))
      (λ later. least_left before x behind y (rises_tail b (before ++ x ∷ behind) h) later (λ c. other (contains_more b y before c)))
      (contains_cases b y (before ++ x ∷ behind) in')

  -- of the elements up to it, it has the greatest key
  pub greatest_front : (before : List X) (x : X) (behind : List X) (y : X) → Rises (before ++ x ∷ behind) → Contains (before ++ x ∷ []) y → key y ≤ key x
  greatest_front [] x behind y h in' =
      ⊎_elim (λ same. let e : key x ≡ key y = ap key same in omega arith) (λ none. absurd (contains_none y none)) (contains_cases x y [] in')
  greatest_front (b ∷ before) x behind y h in' =
      ⊎_elim
      (λ same. let lt = rises_head b x (before ++ x ∷ behind) h (contains_middle before x behind) in let e : key b ≡ key y = ap key same in omega arith)
      (λ later. greatest_front before x behind y (rises_tail b (before ++ x ∷ behind) h) later)
      (contains_cases b y (before ++ x ∷ []) in')

  -- elements of one key stand at one place
  pub same_place : (xs : List X) (x : X) (more : List X) (ys : List X) (y : X) (rest : List X) → Rises (xs ++ x ∷ more) → xs ++ x ∷ more ≡ ys ++ y ∷ rest → key x ≡ key y → (xs ≡ ys) × (x ≡ y)
  same_place [] x more [] y rest h e k = (refl, cc)
  same_place [] x more (z ∷ ys) y rest h e k =
      let tail : more ≡ ys ++ y ∷ rest = cc in
      let lt = rises_head x y more h (subst (λ l. Contains l y) (sym tail) (contains_middle ys y rest)) in
      absurd (omega arith)
  same_place (w ∷ xs) x more [] y rest h e k =
      let head : w ≡ y = cc in
      let lt = rises_head w x (xs ++ x ∷ more) h (contains_middle xs x more) in
      let same = ap key head in
      absurd (omega arith)
  same_place (w ∷ xs) x more (z ∷ ys) y rest h e k =
      let head : w ≡ z = cc in
      let tail : xs ++ x ∷ more ≡ ys ++ y ∷ rest = cc in
      let ih = same_place xs x more ys y rest (rises_tail w (xs ++ x ∷ more) h) tail k in
      (ap (λ v. v ∷ xs) head ∙ ap (λ l. z ∷ l) ih.0, ih.1)
