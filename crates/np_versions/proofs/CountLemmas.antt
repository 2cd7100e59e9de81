-- The assigned code points are counted by the sizes of the rows.
use Rattle.std.proofs.Common.{◌≡◌, ℕ, zero, suc, ◌+◌, ◌-◌, ◌<◌, ◌≤◌, ◌⊎◌, Bool, true, false, List, [], ◌∷◌, length, drop, Some, None, is_some, refl, sym, ap, ◌∙◌, subst, arith, inl, inr, le-leb, if◌then◌else◌}
use Rattle.np_versions.proofs.Words.{slice_get, cases_lt, and_parts, leb-true, and_from, drop_all, none-some, same_Some, Entry, IsRow, IsBefore, AreRows}
use Rattle.np_versions.proofs.Words.{lies_in, VersionData, entry_at, is_assigned}
use Rattle.np_versions.specs.Counts.{count_below, assigned_count}
use Rattle.np_versions.proofs.RowLemmas.{entry_at-nil, entry_at-hit, entry_at-miss, out_of, below_out}

abbrev one_if : Bool → ℕ
one_if b = if b then 1 else 0

-- how many code points the rows have
unfoldable pub sizes : List Entry → ℕ
sizes [] = 0
sizes (e ∷ es) = (e.last - e.first + 1) + sizes es

listed : List Entry → ℕ → Bool
listed es c = is_some (entry_at es c)

pub count-le : (p : ℕ → Bool) (n : ℕ) → count_below p n ≤ n
unfolding count_below
count-le p zero = omega arith
count-le p (suc n) =
    let rest = count-le p n in
    grind arith

-- what passes one test passes the other
module _ (p q : ℕ → Bool) (passes : (c : ℕ) → p c ≡ true → q c ≡ true) where
  pub count-most : (n : ℕ) → count_below p n ≤ count_below q n
  unfolding count_below
  count-most zero = omega arith
  count-most (suc n) =
      let rest = count-most n in
      grind (arith, and_parts, and_from)

  -- where no more pass the other, the same ones do
  pub count-same : (n c : ℕ) → count_below q n ≤ count_below p n → c < n → q c ≡ true → p c ≡ true
  unfolding count_below
  count-same zero c le lt has = absurd (omega (arith, lt))
  count-same (suc n) c le lt has =
      let rest = count-most n in
      elim (cases_lt c n) [
        | inl below ↦ count-same n c (grind arith) below has
        | inr last ↦ (let same : c ≡ n = omega (arith, lt, last) in let has_n = subst (λ x. q x ≡ true) same has in subst (λ x. p x ≡ true) (sym same) (grind arith))
      ]

count-none : (p : ℕ → Bool) (n : ℕ) → ((c : ℕ) → p c ≡ false) → count_below p n ≡ 0
unfolding count_below
count-none p zero none = refl
count-none p (suc n) none =
    let rest = count-none p n none in
    grind (arith, and_parts, and_from)

-- a row counts what of it is below n
count-run : (e : Entry) (n : ℕ) → e.first ≤ e.last → ((n ≤ e.first) × (count_below (λ c. lies_in (Some e) c) n ≡ 0)) ⊎ (((e.first < n) × (n ≤ e.last + 1) × (count_below (λ c. lies_in (Some e) c) n ≡ n - e.first)) ⊎ ((e.last < n) × (count_below (λ c. lies_in (Some e) c) n ≡ e.last - e.first + 1)))
unfolding count_below
count-run e zero le = inl (omega arith, refl)
count-run e (suc n) le =
    let rest = count-run e n le in
    grind (arith, below_out, out_of, and_from, le-leb)

count-row : (e : Entry) (n : ℕ) → e.first ≤ e.last → e.last < n → count_below (λ c. lies_in (Some e) c) n ≡ e.last - e.first + 1
count-row e n le lt = grind (arith, count-run)

-- two tests of which no number passes both
count-both : (p q r : ℕ → Bool) (n : ℕ) → ((c : ℕ) → ((p c ≡ true) × (q c ≡ false) × (r c ≡ true)) ⊎ ((p c ≡ false) × (q c ≡ r c))) → count_below r n ≡ count_below p n + count_below q n
unfolding count_below
count-both p q r zero either = refl
count-both p q r (suc n) either =
    let rest = count-both p q r n either in
    grind (arith, and_parts, and_from)

-- the rows after one list none of its code points
after_none : (e : Entry) (es : List Entry) (c : ℕ) → IsBefore e es → AreRows es → c ≤ e.last → entry_at es c ≡ None
after_none e [] c before rows le = entry_at-nil c
after_none e (f ∷ fs) c before rows le = entry_at-miss f fs c (below_out f c (omega arith)) ∙ after_none f fs c rows.1 rows.2 (omega arith)

listed_either : (e : Entry) (es : List Entry) (c : ℕ) → IsBefore e es → AreRows es
    → ((lies_in (Some e) c ≡ true) × (listed es c ≡ false) × (listed (e ∷ es) c ≡ true)) ⊎ ((lies_in (Some e) c ≡ false) × (listed es c ≡ listed (e ∷ es) c))
unfolding listed
listed_either e es c before rows = grind (arith, after_none, entry_at-hit, entry_at-miss, leb-true, and_parts)

count-listed : (es : List Entry) (n : ℕ) → AreRows es → ((e : Entry) → IsRow e → e.last < n) → count_below (listed es) n ≡ sizes es
unfolding sizes listed
count-listed [] n rows below = count-none (listed []) n (λ c. ap is_some (entry_at-nil c))
count-listed (e ∷ es) n rows below =
    let both = count-both (λ c. lies_in (Some e) c) (listed es) (listed (e ∷ es)) n (λ c. listed_either e es c rows.1 rows.2) in
    let here = count-row e n rows.0.rises (below e rows.0) in
    let rest = count-listed es n rows.2 below in
    omega arith

-- at the numeral, by the lemma for each number
pub sizes-count : (v : VersionData) → AreRows v.entries → sizes v.entries ≡ assigned_count v
unfolding assigned_count listed is_assigned
sizes-count v rows = sym (count-listed v.entries 0x110000 rows (λ e row. row.bounded))

pub sizes-le : (v : VersionData) → AreRows v.entries → sizes v.entries ≤ 0x110000
unfolding assigned_count
sizes-le v rows = let same = sizes-count v rows in let le = count-le (is_assigned v) 0x110000 in omega arith

-- one row less
pub sizes-drop : (es : List Entry) (i : ℕ) (e : Entry) → slice_get es i ≡ Some e → sizes (drop i es) ≡ (e.last - e.first + 1) + sizes (drop (i + 1) es)
unfolding sizes
sizes-drop [] i e h = absurd (none-some e h)
sizes-drop (x ∷ xs) zero e h = ap (λ (f : Entry). (f.last - f.first + 1) + sizes xs) (same_Some x e h)
sizes-drop (x ∷ xs) (suc i) e h = let more : suc i + 1 ≡ suc (i + 1) = omega arith in sizes-drop xs i e h ∙ ap (λ j. (e.last - e.first + 1) + sizes (drop j (x ∷ xs))) (sym more)

pub sizes-end : (es : List Entry) (i : ℕ) → length es ≤ i → sizes (drop i es) ≡ 0
unfolding sizes
sizes-end es i h = ap sizes (drop_all i es h)

pub sizes-past : (es : List Entry) (i : ℕ) → i < length es → slice_get es i ≡ None → ⊥
sizes-past [] i lt h = omega arith
sizes-past (x ∷ xs) zero lt h = none-some x (sym h)
sizes-past (x ∷ xs) (suc i) lt h = sizes-past xs i (omega arith) h
