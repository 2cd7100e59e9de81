-- The words of a text, one after another.
use Rattle.std.proofs.Common.{◌≡◌, ℕ, ◌<◌, ◌≤◌, Bool, true, false, not, cond, eqb, List, [], ◌∷◌, length, Option, Some, None, refl, sym, ap, ◌∙◌, arith}
use Rattle.std.specs.List.{slice_split, onto_first, filter}
use Rattle.std.proofs.lemmas.Bool.{true≢false, eqb-true}
use Rattle.np_code_points.specs.inside.LineCuts.{before_first, after_first, is_empty}
use Rattle.np_code_points.specs.inside.WordCuts.{after_all, words_by, or_nothing}
use Rattle.np_code_points.proofs.LineLemmas.{rest_parts, split_cut, length-after_first}

abbrev is_word : List ℕ → Bool
is_word word = not (is_empty word)

module _ (p : ℕ → Bool) where
  front_step : (t : Bool) (x : ℕ) (xs : List ℕ) → filter is_word (slice_split p (after_all p xs)) ≡ filter is_word (slice_split p xs) → p x ≡ t → filter is_word (slice_split p (cond t (after_all p xs) (x ∷ xs))) ≡ filter is_word (slice_split p (x ∷ xs))
  front_step true x xs h e = h ∙ sym (ap (λ t. filter is_word (cond t ([] ∷ slice_split p xs) (onto_first x (slice_split p xs)))) e)
  front_step false x xs h e = refl

  -- dividers in front count for nothing
  pub words_after_all : (xs : List ℕ) → words_by p (after_all p xs) ≡ words_by p xs
  unfolding words_by
  words_after_all [] = refl
  words_after_all (x ∷ xs) = front_step (p x) x xs (words_after_all xs) refl

  head_step : (t : Bool) (x y : ℕ) (xs ys : List ℕ) → p x ≡ t → (after_all p xs ≡ y ∷ ys → p y ≡ false) → cond t (after_all p xs) (x ∷ xs) ≡ y ∷ ys → p y ≡ false
  head_step true x y xs ys e h same = h same
  head_step false x y xs ys e h same = let head : x ≡ y = cc in ap p (sym head) ∙ e

  pub head_after_all : (xs : List ℕ) (y : ℕ) (ys : List ℕ) → after_all p xs ≡ y ∷ ys → p y ≡ false
  head_after_all [] y ys h = absurd (cc)
  head_after_all (x ∷ xs) y ys h = head_step (p x) x y xs ys refl (head_after_all xs y ys) h

  word_step : (t : Bool) (y : ℕ) (before : List ℕ) (rest : List (List ℕ)) → t ≡ false → filter is_word (cond t [] (y ∷ before) ∷ rest) ≡ cond t [] (y ∷ before) ∷ filter is_word rest
  word_step true y before rest e = absurd (true≢false e)
  word_step false y before rest e = refl

  words_behind : (o : Option (List ℕ)) → filter is_word (rest_parts p o) ≡ words_by p (or_nothing o)
  unfolding words_by
  words_behind None = sym (ap (filter is_word) (split_cut p []))
  words_behind (Some rest) = refl

  first_word : (y : ℕ) (ys : List ℕ) → p y ≡ false → words_by p (y ∷ ys) ≡ before_first p (y ∷ ys) ∷ words_by p (or_nothing (after_first p (y ∷ ys)))
  unfolding words_by
  first_word y ys e =
      ap (filter is_word) (split_cut p (y ∷ ys))
      ∙ word_step (p y) y (before_first p ys) (rest_parts p (after_first p (y ∷ ys))) e
      ∙ ap (λ ws. before_first p (y ∷ ys) ∷ ws) (words_behind (after_first p (y ∷ ys)))

  -- what is left of a text behind its dividers is a word, and the words behind it
  pub word_some : (xs s : List ℕ) → s ≡ after_all p xs → eqb (length s) 0 ≡ false → words_by p xs ≡ before_first p s ∷ words_by p (or_nothing (after_first p s))
  word_some xs [] h e = absurd (true≢false e)
  word_some xs (y ∷ ys) h e =
      sym (words_after_all xs) ∙ ap (words_by p) (sym h) ∙ first_word y ys (head_after_all xs y ys (sym h))

  pub words_none : (xs s : List ℕ) → s ≡ after_all p xs → eqb (length s) 0 ≡ true → words_by p xs ≡ []
  unfolding words_by
  words_none xs [] h e = sym (words_after_all xs) ∙ ap (words_by p) (sym h)
  words_none xs (y ∷ ys) h e = absurd (omega (arith, eqb-true (length (y ∷ ys)) 0 e))

  length_step : (t : Bool) (x : ℕ) (xs : List ℕ) → length (after_all p xs) ≤ length xs → length (cond t (after_all p xs) (x ∷ xs)) ≤ length (x ∷ xs)
  length_step true x xs h = omega arith
  length_step false x xs h = omega arith

  pub length-after_all : (xs : List ℕ) → length (after_all p xs) ≤ length xs
  length-after_all [] = omega arith
  length-after_all (x ∷ xs) = length_step (p x) x xs (length-after_all xs)

  shorter_step : (xs : List ℕ) (o : Option (List ℕ)) → 0 < length xs → after_first p xs ≡ o → length (or_nothing o) < length xs
  shorter_step xs None l h = l
  shorter_step xs (Some rest) l h = length-after_first p xs rest h

  pub length-behind_word : (xs : List ℕ) → 0 < length xs → length (or_nothing (after_first p xs)) < length xs
  length-behind_word xs l = shorter_step xs (after_first p xs) l refl
