-- How a cut at the first element that passes a test gives the lines, and what is dropped of them.
use Rattle.std.proofs.Common.{◌≡◌, ◌≢◌, ℕ, zero, suc, ◌<◌, ◌≤◌, Bool, true, false, cond, eqb, List, [], ◌∷◌, length, get_or, take, Option, Some, None, refl, sym, ap, ◌∙◌, arith}
use Rattle.std.specs.List.{slice_split, onto_first}
use Rattle.std.proofs.lemmas.Bool.{cond-true, cond-false, ne_eqb, eq-eqb}
use Rattle.np_code_points.specs.inside.LineCuts.{before_first, after_first, before_byte, after_byte, is_byte, without_last_empty, lines_of, without_return}

module _ (p : ℕ → Bool) where
  -- the parts behind the first
  abbrev pub rest_parts : Option (List ℕ) → List (List ℕ)
  rest_parts None = []
  rest_parts (Some xs) = slice_split p xs

  split_step : (t : Bool) (x : ℕ) (xs before : List ℕ) (after : Option (List ℕ)) → slice_split p xs ≡ before ∷ rest_parts after → cond t ([] ∷ slice_split p xs) (onto_first x (slice_split p xs)) ≡ cond t [] (x ∷ before) ∷ rest_parts (cond t (Some xs) after)
  split_step true x xs before after h = refl
  split_step false x xs before after h = ap (onto_first x) h

  -- the parts are what stands before the first separator, and the parts of what stands behind it
  pub split_cut : (xs : List ℕ) → slice_split p xs ≡ before_first p xs ∷ rest_parts (after_first p xs)
  split_cut [] = refl
  split_cut (x ∷ xs) = split_step (p x) x xs (before_first p xs) (after_first p xs) (split_cut xs)

  behind_step : (t : Bool) (xs rest : List ℕ) (o : Option (List ℕ)) → (o ≡ Some rest → length rest < length xs) → cond t (Some xs) o ≡ Some rest → length rest ≤ length xs
  behind_step true xs rest o h e = let same : xs ≡ rest = cc in omega (arith, ap length same)
  behind_step false xs rest o h e = omega (arith, h e)

  pub length-after_first : (xs rest : List ℕ) → after_first p xs ≡ Some rest → length rest < length xs
  length-after_first [] rest h = absurd (cc)
  length-after_first (x ∷ xs) rest h =
      let l = behind_step (p x) xs rest (after_first p xs) (length-after_first xs rest) h in omega arith

lines_step : (before : List ℕ) (parts : List (List ℕ)) (part : List ℕ) (more : List (List ℕ)) → parts ≡ part ∷ more → without_last_empty (before ∷ parts) ≡ before ∷ without_last_empty parts
lines_step before parts part more h =
    ap (λ ps. without_last_empty (before ∷ ps)) h ∙ ap (λ ps. before ∷ without_last_empty ps) (sym h)

lone_line : (t : Bool) (x : ℕ) (xs before : List ℕ) (after : Option (List ℕ)) → cond t (Some xs) after ≡ None → without_last_empty (cond t [] (x ∷ before) ∷ []) ≡ cond t [] (x ∷ before) ∷ []
lone_line true x xs before after h = absurd (cc)
lone_line false x xs before after h = refl

-- the first of the lines of what is not empty
pub lines_cut : (xs rest : List ℕ) → (xs ≢ []) → after_byte 10 xs ≡ Some rest → lines_of xs ≡ before_byte 10 xs ∷ lines_of rest
unfolding lines_of
lines_cut xs rest ne h =
    ap without_last_empty (split_cut (is_byte 10) xs ∙ ap (λ o. before_byte 10 xs ∷ rest_parts (is_byte 10) o) h)
    ∙ lines_step (before_byte 10 xs) (slice_split (λ x. eqb x 10) rest) (before_byte 10 rest) (rest_parts (is_byte 10) (after_byte 10 rest)) (split_cut (is_byte 10) rest)

pub lines_lone : (xs : List ℕ) → (xs ≢ []) → after_byte 10 xs ≡ None → lines_of xs ≡ before_byte 10 xs ∷ lines_of []
unfolding lines_of
lines_lone [] ne h = absurd (ne refl)
lines_lone (x ∷ xs) ne h =
    ap without_last_empty (split_cut (is_byte 10) (x ∷ xs) ∙ ap (λ o. before_byte 10 (x ∷ xs) ∷ rest_parts (is_byte 10) o) h)
    ∙ lone_line (eqb x 10) x xs (before_byte 10 xs) (after_byte 10 xs) h

-- CR at the end of a line
pub returned_yes : (n : ℕ) (xs : List ℕ) → length xs ≡ suc n → get_or xs n 0 ≡ 13 → take n xs ≡ without_return xs
returned_yes n [] l h = absurd (cc)
returned_yes zero (x ∷ []) l h = sym (cond-true (eqb x 13) [] (x ∷ []) (eq-eqb x 13 h))
returned_yes (suc n) (x ∷ []) l h = absurd (omega arith)
returned_yes zero (x ∷ y ∷ ys) l h = absurd (omega arith)
returned_yes (suc n) (x ∷ y ∷ ys) l h = ap (λ r. x ∷ r) (returned_yes n (y ∷ ys) (omega arith) h)

pub returned_no : (n : ℕ) (xs : List ℕ) → length xs ≡ suc n → (get_or xs n 0 ≡ 13 → ⊥) → xs ≡ without_return xs
returned_no n [] l h = refl
returned_no zero (x ∷ []) l h = sym (cond-false (eqb x 13) [] (x ∷ []) (ne_eqb x 13 h))
returned_no (suc n) (x ∷ []) l h = absurd (omega arith)
returned_no zero (x ∷ y ∷ ys) l h = absurd (omega arith)
returned_no (suc n) (x ∷ y ∷ ys) l h = ap (λ r. x ∷ r) (returned_no n (y ∷ ys) (omega arith) h)

pub returned_nil : (xs : List ℕ) → length xs ≤ 0 → xs ≡ without_return xs
returned_nil [] l = refl
returned_nil (x ∷ xs) l = absurd (omega arith)

pub filled : (xs : List ℕ) → (xs ≢ []) → 0 < length xs
filled [] h = absurd (h refl)
filled (x ∷ xs) h = omega arith
