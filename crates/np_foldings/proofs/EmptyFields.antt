-- A record of fifteen fields that ends in two empty ones says no lowercase.
use Rattle.std.proofs.Common.{◌≡◌, ℕ, ◌+◌, ◌-◌, Bool, true, false, eqb, cond, List, [], ◌∷◌, ◌++◌, length, get_or, take, Option, Some, None, refl, sym, ap, ◌∙◌, inl, inr, arith, nat_eq, ◌||◌, length-append}
use Rattle.std.specs.List.{slice_split, onto_first, ends_with, count_by}
use Rattle.std.proofs.lemmas.Bool.{cases_Bool}
use Rattle.std.proofs.lemmas.Bool.Decides.{Decides-eqb}
use Rattle.std.proofs.lemmas.List.{get_or-append_right}
use Rattle.std.proofs.lemmas.List.Splits.{length-slice_split, slice_split-cons_yes, slice_split-cons_no}
use Rattle.std.proofs.lemmas.Slice.Eq.{ends_is}
use Rattle.np_code_points.specs.Codes.{code_value}
use Rattle.np_code_points.specs.declared.words.Dividers.TheVariants.{Spaces}
use Rattle.np_code_points.specs.inside.WordCuts.{words_by, words_of}
use Rattle.np_ucd.specs.inside.FieldReading.{fields_of, opens_range, closes_range}
use Rattle.np_ucd.specs.inside.RecordReading.{field}
use Rattle.np_foldings.specs.inside.LowercaseReading.{pair_of, said_lower, word_code}

module _ (p : ℕ → Bool) (y : ℕ) (yes : p y ≡ true) where
  onto_more : (x : ℕ) (parts more : List (List ℕ)) (n : ℕ) → length parts ≡ n + 1 → onto_first x (parts ++ more) ≡ onto_first x parts ++ more
  onto_more x [] more n some = absurd (omega (arith, some))
  onto_more x (part ∷ parts) more n some = refl

  -- the parts before a byte at which is cut, and those behind it
  cut_there : (xs ys : List ℕ) → slice_split p (xs ++ y ∷ ys) ≡ slice_split p xs ++ slice_split p ys
  cut_there [] ys = slice_split-cons_yes p y ys yes
  cut_there (x ∷ xs) ys =
      elim (cases_Bool (p x)) [
        | inl here ↦
            slice_split-cons_yes p x (xs ++ y ∷ ys) here
            ∙ ap (λ parts. [] ∷ parts) (cut_there xs ys)
            ∙ ap (λ parts. parts ++ slice_split p ys) (sym (slice_split-cons_yes p x xs here))
        | inr there ↦
            slice_split-cons_no p x (xs ++ y ∷ ys) there
            ∙ ap (onto_first x) (cut_there xs ys)
            ∙ onto_more x (slice_split p xs) (slice_split p ys) (count_by p xs) (length-slice_split p xs)
            ∙ ap (λ parts. parts ++ slice_split p ys) (sym (slice_split-cons_no p x xs there))
      ]

  two_empty : (xs : List ℕ) → slice_split p (xs ++ y ∷ y ∷ []) ≡ slice_split p xs ++ [] ∷ [] ∷ []
  two_empty xs = cut_there xs (y ∷ []) ∙ ap (λ parts. slice_split p xs ++ parts) (slice_split-cons_yes p y [] yes)

  -- of the parts of a list that ends so the last but one is empty
  last_but_one : (xs text : List ℕ) (n : ℕ) → text ≡ xs ++ y ∷ y ∷ [] → count_by p text ≡ n + 1 → get_or (slice_split p text) n [] ≡ []
  last_but_one xs text n is count =
      let parts = ap (slice_split p) is ∙ two_empty xs in
      let size : length (slice_split p xs) ≡ n =
      omega (arith, length-slice_split p text, count, ap length parts, length-append (slice_split p xs) ([] ∷ [] ∷ [])) in
      let none : n - n ≡ 0 = omega arith in
      ap (λ ps. get_or ps n []) parts
      ∙ get_or-append_right (slice_split p xs) ([] ∷ [] ∷ []) n n [] size (omega arith)
      ∙ ap (λ k. get_or ([] ∷ [] ∷ []) k []) none

no_words : word_code (words_of Spaces []) ≡ None
unfolding words_by
no_words = refl

no_pair : (code : Option ℕ) → pair_of code None ≡ []
no_pair None = refl
no_pair (Some code) = refl

either_none : {X : Type 0} (t : Bool) (pairs : List X) → pairs ≡ [] → cond t [] pairs ≡ []
either_none true pairs none = refl
either_none false pairs none = none

pub says_nothing : (text : List ℕ) → ends_with nat_eq text (59 ∷ 59 ∷ []) ≡ true → count_by (λ b. eqb b 59) text ≡ 14 → said_lower text ≡ []
unfolding said_lower field fields_of
says_nothing text ends count =
    let front = take (length text - 2) text in
    let is = (ends_is Decides-eqb text (59 ∷ 59 ∷ []) (ends_with nat_eq text (59 ∷ 59 ∷ [])) refl).0 ends in
    let empty = last_but_one (λ b. eqb b 59) 59 refl front text 13 is count in
    let none = ap word_code (ap (words_of Spaces) empty) ∙ no_words in
    let pair = ap (pair_of (code_value (field 0 text))) none ∙ no_pair (code_value (field 0 text)) in
    either_none (opens_range (field 1 text) || closes_range (field 1 text)) _ pair
