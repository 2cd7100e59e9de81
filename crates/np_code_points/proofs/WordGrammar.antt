-- The words of a text are those of the grammar.
use Rattle.std.proofs.Common.{◌≡◌, ◌≢◌, ℕ, zero, suc, ◌≤◌, Bool, true, false, cond, eqb, List, [], ◌∷◌, ◌++◌, length, Option, Some, refl, sym, ap, subst, ◌∙◌, arith}
use Rattle.std.specs.List.{All}
use Rattle.std.proofs.lemmas.Bool.{eqb-true, eq-eqb, ne_eqb, both_ways, false_from_ne_true}
use Rattle.std.proofs.lemmas.List.{append-nil}
use Rattle.std.proofs.lemmas.List.Elements.{All-nil, All-cons, All-head, All-tail}
use Rattle.np_code_points.specs.Words.{Dividers, Spaces, Blanks, Divides, AreDividers, EndsWord, AreWords}
use Rattle.np_code_points.specs.inside.LineCuts.{before_first, after_first}
use Rattle.np_code_points.specs.inside.WordCuts.{divides, after_all, words_by, words_of, or_nothing}
use Rattle.np_code_points.proofs.BlankLemmas.{blank_true, true_blank}
use Rattle.np_code_points.proofs.WordLemmas.{words_after_all, head_after_all, word_some, words_none, length-after_all, length-behind_word}

-- What divides.
pub divider_true : (d : Dividers) (b : ℕ) → Divides d b → divides d b ≡ true
divider_true Spaces b h = eq-eqb b 32 h
divider_true Blanks b h = blank_true b h

pub true_divider : (d : Dividers) (b : ℕ) → divides d b ≡ true → Divides d b
true_divider Spaces b h = eqb-true b 32 h
true_divider Blanks b h = true_blank b h

module _ (d : Dividers) where
  abbrev IsOther : ℕ → Type 0
  IsOther b = Divides d b → ⊥

  other_false : (b : ℕ) → IsOther b → divides d b ≡ false
  other_false b h = false_from_ne_true (divides d b) (λ e. h (true_divider d b e))

  false_other : (b : ℕ) → divides d b ≡ false → IsOther b
  false_other b e h = both_ways (divides d b) e (divider_true d b h)

  -- What stands in front.
  pub record Divided (text rest : List ℕ) : Type 0 where
    pub front : List ℕ
    pub all : AreDividers d front
    pub stands : text ≡ front ++ rest

  divided_step : (t : Bool) (x : ℕ) (xs rest : List ℕ) → divides d x ≡ t → Divided xs rest → Divided (x ∷ xs) (cond t rest (x ∷ xs))
  divided_step true x xs rest e h = record {
    front = x ∷ h.front;
    all = All-cons (Divides d) x h.front (true_divider d x e) h.all;
    stands = ap (λ r. x ∷ r) h.stands;
  }
  divided_step false x xs rest e h = record { front = []; all = All-nil (Divides d); stands = refl }

  pub divided : (text : List ℕ) → Divided text (after_all (divides d) text)
  divided [] = record { front = []; all = All-nil (Divides d); stands = refl }
  divided (x ∷ xs) = divided_step (divides d x) x xs (after_all (divides d) xs) refl (divided xs)

  pub after_all_in_front : (front rest : List ℕ) → AreDividers d front → after_all (divides d) (front ++ rest) ≡ after_all (divides d) rest
  after_all_in_front [] rest h = refl
  after_all_in_front (x ∷ front) rest h =
      ap (λ t. cond t (after_all (divides d) (front ++ rest)) (x ∷ front ++ rest)) (divider_true d x (All-head (Divides d) x front h))
      ∙ after_all_in_front front rest (All-tail (Divides d) x front h)

  pub only_dividers : (text : List ℕ) → AreDividers d text → after_all (divides d) text ≡ []
  only_dividers text h = ap (after_all (divides d)) (sym (append-nil text)) ∙ after_all_in_front text [] h

  pub dividers_only : (text : List ℕ) → after_all (divides d) text ≡ [] → AreDividers d text
  dividers_only text h =
      let s = divided text in
      let same : text ≡ s.front = s.stands ∙ ap (λ r. s.front ++ r) h ∙ append-nil s.front in
      subst (AreDividers d) (sym same) s.all

  -- The word in front.
  free_step : (t : Bool) (x : ℕ) (before : List ℕ) → divides d x ≡ t → All IsOther before → All IsOther (cond t [] (x ∷ before))
  free_step true x before e h = All-nil IsOther
  free_step false x before e h = All-cons IsOther x before (false_other x e) h

  word_free : (xs : List ℕ) → All IsOther (before_first (divides d) xs)
  word_free [] = All-nil IsOther
  word_free (x ∷ xs) = free_step (divides d x) x (before_first (divides d) xs) refl (word_free xs)

  word_filled : (x : ℕ) (xs : List ℕ) → divides d x ≡ false → before_first (divides d) (x ∷ xs) ≢ []
  word_filled x xs e same =
      let step : before_first (divides d) (x ∷ xs) ≡ x ∷ before_first (divides d) xs = ap (λ t. cond t [] (x ∷ before_first (divides d) xs)) e in
      absurd (cc)

  -- what stands behind a word: nothing, or a divider and the rest
  record Ended (xs word rest : List ℕ) : Type 0 where
    behind : List ℕ
    stands : xs ≡ word ++ behind
    ends : EndsWord d behind
    words : (words : List (List ℕ)) → AreWords d rest words → AreWords d behind words

  one_divider : (b : ℕ) (text : List ℕ) (words : List (List ℕ)) → Divides d b → AreWords d text words → AreWords d (b ∷ text) words
  one_divider b text [] e h = All-cons (Divides d) b text e h
  one_divider b text (word ∷ words) e h =
      (b ∷ h.0, h.1, ap (λ r. b ∷ r) h.2, All-cons (Divides d) b h.0 e h.3, h.4, h.5, h.6, h.7)

  ended_step : (t : Bool) (x : ℕ) (xs before : List ℕ) (after : Option (List ℕ)) → divides d x ≡ t → Ended xs before (or_nothing after) → Ended (x ∷ xs) (cond t [] (x ∷ before)) (or_nothing (cond t (Some xs) after))
  ended_step true x xs before after e h = record {
    behind = x ∷ xs;
    stands = refl;
    ends = true_divider d x e;
    words = λ words are. one_divider x xs words (true_divider d x e) are;
  }
  ended_step false x xs before after e h = record {
    behind = h.behind;
    stands = ap (λ r. x ∷ r) h.stands;
    ends = h.ends;
    words = h.words;
  }

  ended : (xs : List ℕ) → Ended xs (before_first (divides d) xs) (or_nothing (after_first (divides d) xs))
  ended [] = record { behind = []; stands = refl; ends = tt; words = λ words are. are }
  ended (x ∷ xs) = ended_step (divides d x) x xs (before_first (divides d) xs) (after_first (divides d) xs) refl (ended xs)

  -- The words are words.
  no_words : AreWords d [] (words_by (divides d) [])
  no_words = subst (AreWords d []) (sym (words_none (divides d) [] [] refl refl)) (All-nil (Divides d))

  some_words : (n : ℕ) (text : List ℕ) (x : ℕ) (xs : List ℕ) → length text ≤ suc n → after_all (divides d) text ≡ x ∷ xs → ((ys : List ℕ) → length ys ≤ n → AreWords d ys (words_by (divides d) ys)) → AreWords d text (words_by (divides d) text)
  some_words n text x xs l e ih =
      let s = divided text in
      let w = ended (x ∷ xs) in
      let rest = or_nothing (after_first (divides d) (x ∷ xs)) in
      let filled : eqb (length (x ∷ xs)) 0 ≡ false = ne_eqb (length (x ∷ xs)) 0 (λ e. omega arith) in
      let short : length rest ≤ n =
      omega (arith, length-behind_word (divides d) (x ∷ xs) (omega arith), length-after_all (divides d) text, ap length e) in
      subst (AreWords d text) (sym (word_some (divides d) text (x ∷ xs) (sym e) filled)) (
        s.front,
        w.behind,
        s.stands ∙ ap (λ r. s.front ++ r) (e ∙ w.stands),
        s.all,
        word_filled x xs (head_after_all (divides d) text x xs e),
        word_free (x ∷ xs),
        w.ends,
        w.words (words_by (divides d) rest) (ih rest short),
      )

  words_at : (n : ℕ) (text rest : List ℕ) → length text ≤ suc n → after_all (divides d) text ≡ rest → ((ys : List ℕ) → length ys ≤ n → AreWords d ys (words_by (divides d) ys)) → AreWords d text (words_by (divides d) text)
  words_at n text [] l e ih = subst (AreWords d text) (sym (words_none (divides d) text [] (sym e) refl)) (dividers_only text e)
  words_at n text (x ∷ xs) l e ih = some_words n text x xs l e ih

  words_within : (n : ℕ) (text : List ℕ) → length text ≤ n → AreWords d text (words_by (divides d) text)
  words_within n [] l = no_words
  words_within zero (x ∷ xs) l = absurd (omega arith)
  words_within (suc n) (x ∷ xs) l = words_at n (x ∷ xs) (after_all (divides d) (x ∷ xs)) l refl (words_within n)

  pub are_words : (text : List ℕ) → AreWords d text (words_of d text)
  are_words text = words_within (length text) text (omega arith)

  -- No other words are.
  pub word_first : (word rest : List ℕ) → (word ≢ []) → All IsOther word → after_all (divides d) (word ++ rest) ≡ word ++ rest
  word_first [] rest ne h = absurd (ne refl)
  word_first (x ∷ xs) rest ne h =
      ap (λ t. cond t (after_all (divides d) (xs ++ rest)) (x ∷ xs ++ rest)) (other_false x (All-head IsOther x xs h))

  not_short : (word rest : List ℕ) → (word ≢ []) → eqb (length (word ++ rest)) 0 ≡ false
  not_short [] rest ne = absurd (ne refl)
  not_short (x ∷ xs) rest ne = ne_eqb (length (x ∷ xs ++ rest)) 0 (λ e. omega arith)

  before_word : (word rest : List ℕ) → All IsOther word → EndsWord d rest → before_first (divides d) (word ++ rest) ≡ word
  before_word [] [] h ends = refl
  before_word [] (b ∷ rest) h ends = ap (λ t. cond t [] (b ∷ before_first (divides d) rest)) (divider_true d b ends)
  before_word (x ∷ xs) rest h ends =
      ap (λ t. cond t [] (x ∷ before_first (divides d) (xs ++ rest))) (other_false x (All-head IsOther x xs h))
      ∙ ap (λ r. x ∷ r) (before_word xs rest (All-tail IsOther x xs h) ends)

  behind_word : (word rest : List ℕ) → All IsOther word → EndsWord d rest → words_by (divides d) (or_nothing (after_first (divides d) (word ++ rest))) ≡ words_by (divides d) rest
  behind_word [] [] h ends = refl
  behind_word [] (b ∷ rest) h ends =
      let here : divides d b ≡ true = divider_true d b ends in
      ap (λ t. words_by (divides d) (or_nothing (cond t (Some rest) (after_first (divides d) rest)))) here
      ∙ sym (words_after_all (divides d) rest)
      ∙ ap (λ t. words_by (divides d) (cond t (after_all (divides d) rest) (b ∷ rest))) (sym here)
      ∙ words_after_all (divides d) (b ∷ rest)
  behind_word (x ∷ xs) rest h ends =
      ap (λ t. words_by (divides d) (or_nothing (cond t (Some (xs ++ rest)) (after_first (divides d) (xs ++ rest))))) (other_false x (All-head IsOther x xs h))
      ∙ behind_word xs rest (All-tail IsOther x xs h) ends

  words_step : (text word rest : List ℕ) → after_all (divides d) text ≡ word ++ rest → (word ≢ []) → All IsOther word → EndsWord d rest → words_by (divides d) text ≡ word ∷ words_by (divides d) rest
  words_step text word rest e ne free ends =
      word_some (divides d) text (word ++ rest) (sym e) (not_short word rest ne)
      ∙ ap (λ w. w ∷ words_by (divides d) (or_nothing (after_first (divides d) (word ++ rest)))) (before_word word rest free ends)
      ∙ ap (λ ws. word ∷ ws) (behind_word word rest free ends)

  only_by : (text : List ℕ) (words : List (List ℕ)) → AreWords d text words → words ≡ words_by (divides d) text
  only_by text [] h = sym (words_none (divides d) text [] (sym (only_dividers text h)) refl)
  only_by text (word ∷ words) h =
      let front = h.0 in
      let rest = h.1 in
      let at : after_all (divides d) text ≡ word ++ rest =
      ap (after_all (divides d)) h.2 ∙ after_all_in_front front (word ++ rest) h.3 ∙ word_first word rest h.4 h.5 in
      ap (λ ws. word ∷ ws) (only_by rest words h.7) ∙ sym (words_step text word rest at h.4 h.5 h.6)

  pub only_words : (text : List ℕ) (words : List (List ℕ)) → AreWords d text words → words ≡ words_of d text
  only_words text words h = only_by text words h
