-- How many lines end in bytes.
use Rattle.std.proofs.Common.{◌≡◌, ◌⊎◌, ℕ, ◌+◌, Bool, true, false, cond, eqb, List, [], ◌∷◌, ◌++◌, Some, refl, sym, ap, ◌∙◌, inl, inr, arith}
use Rattle.std.proofs.lemmas.Bool.{cases_Bool, eqb-false, eq-eqb, ne_eqb}
use Rattle.std.proofs.lemmas.List.Elements.{All-nil, All-cons, All-head, All-tail}
use Rattle.std.proofs.lemmas.List.Sums.{sum_by-cons}
use Rattle.np_code_points.specs.Lines.{HasNo}
use Rattle.np_code_points.specs.inside.LineCuts.{before_byte, after_byte}
use Rattle.np_code_points.proofs.LineGrammar.{not_byte, before_at, after_at}
use Rattle.np_lines.specs.Lines.{LineEnd, byte_of}
use Rattle.np_lines.specs.inside.Keyed.{ends_in}

module _ (end : LineEnd) where
  abbrev e : ℕ
  e = byte_of end

  abbrev one : ℕ → ℕ
  one b = cond (eqb b e) 1 0

  ends-cons : (b : ℕ) (bs : List ℕ) → ends_in end (b ∷ bs) ≡ one b + ends_in end bs
  ends-cons b bs = sum_by-cons one b bs

  one-yes : (b : ℕ) → eqb b e ≡ true → one b ≡ 1
  one-yes b is = let f : Bool → ℕ = λ t. cond t 1 0 in ap f is

  one-no : (b : ℕ) → eqb b e ≡ false → one b ≡ 0
  one-no b not = let f : Bool → ℕ = λ t. cond t 1 0 in ap f not

  pub ends-append : (xs ys : List ℕ) → ends_in end (xs ++ ys) ≡ ends_in end xs + ends_in end ys
  ends-append [] ys = omega arith
  ends-append (x ∷ xs) ys = omega (arith, ends-cons x (xs ++ ys), ends-cons x xs, ends-append xs ys)

  pub ends-one : (xs : List ℕ) → ends_in end (e ∷ xs) ≡ 1 + ends_in end xs
  ends-one xs = omega (arith, ends-cons e xs, one-yes e (eq-eqb e e refl))

  pub ends-free : (xs : List ℕ) → HasNo e xs → ends_in end xs ≡ 0
  ends-free [] h = refl
  ends-free (x ∷ xs) h = omega (arith, ends-cons x xs, one-no x (ne_eqb x e (All-head (not_byte e) x xs h)), ends-free xs (All-tail (not_byte e) x xs h))

  pub free-ends : (xs : List ℕ) → ends_in end xs ≡ 0 → HasNo e xs
  free-ends [] h = All-nil (not_byte e)
  free-ends (x ∷ xs) h =
      elim (cases_Bool (eqb x e)) [
        | inl is ↦ absurd (omega (arith, h, ends-cons x xs, one-yes x is))
        | inr not ↦ All-cons (not_byte e) x xs (eqb-false x e not) (free-ends xs (omega (arith, h, ends-cons x xs)))
      ]

  -- bytes are cut at the first end in one way
  pub same_cut : (a b c d : List ℕ) → HasNo e a → HasNo e c → a ++ e ∷ b ≡ c ++ e ∷ d → (a ≡ c) × (b ≡ d)
  same_cut a b c d of_a of_c is =
      let front : a ≡ c = sym (before_at e a b of_a) ∙ ap (before_byte e) is ∙ before_at e c d of_c in
      let some : Some b ≡ Some d = sym (after_at e a b of_a) ∙ ap (after_byte e) is ∙ after_at e c d of_c in
      let back : b ≡ d = cc in
      (front, back)

  -- an end stands right behind the first line, or later
  pub later_end : (line behind before rest : List ℕ) → HasNo e line → line ++ e ∷ behind ≡ before ++ e ∷ rest → (behind ≡ rest) ⊎ ((more : List ℕ) × (behind ≡ more ++ e ∷ rest))
  later_end [] behind [] rest free is = let same : behind ≡ rest = cc in inl same
  later_end [] behind (b ∷ bs) rest free is = let same : behind ≡ bs ++ e ∷ rest = cc in inr (bs, same)
  later_end (x ∷ xs) behind [] rest free is = let same : x ≡ e = cc in absurd (All-head (not_byte e) x xs free same)
  later_end (x ∷ xs) behind (b ∷ bs) rest free is =
      let tail : xs ++ e ∷ behind ≡ bs ++ e ∷ rest = cc in
      later_end xs behind bs rest (All-tail (not_byte e) x xs free) tail

  pub no_end : (before rest : List ℕ) → HasNo e (before ++ e ∷ rest) → ⊥
  no_end [] rest free = All-head (not_byte e) e rest free refl
  no_end (b ∷ bs) rest free = no_end bs rest (All-tail (not_byte e) b (bs ++ e ∷ rest) free)
