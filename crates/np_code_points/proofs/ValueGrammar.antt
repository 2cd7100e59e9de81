-- What words say is what the grammar says, and the words said so far with those that are left are all.
use Rattle.std.proofs.Common.{◌≡◌, ℕ, ◌<◌, ◌≤◌, Bool, true, false, not, ◌&&◌, cond, eqb, leb, List, [], ◌∷◌, ◌++◌, length, Option, Some, None, option_map, refl, sym, ap, subst, ◌∙◌, append_assoc, length-append, arith}
use Rattle.std.specs.List.{AllZip}
use Rattle.std.specs.Option.{option_and_then}
use lib.Utf8.{scalar}
use Rattle.std.proofs.lemmas.Bool.{cond-true, cond-false, and_from, and_parts, and_right, lt-leb, le-leb, leb-true, ne_eqb}
use Rattle.std.proofs.lemmas.List.{append-nil}
use Rattle.np_code_points.specs.Codes.{IsScalarOf, code_value}
use Rattle.np_code_points.specs.inside.LineCuts.{is_empty}
use Rattle.np_code_points.specs.inside.WordValues.{if_scalar, scalar_value, values_of, if_short}

-- A code point.
scalar_test : (t : Bool) (n c : ℕ) → scalar n ≡ t → cond t (Some n) None ≡ Some c → (n ≡ c) × (scalar c ≡ true)
scalar_test true n c e h = let same : n ≡ c = cc in (same, ap scalar (sym same) ∙ e)
scalar_test false n c e h = absurd (cc)

scalar_step : (o : Option ℕ) (c : ℕ) → option_and_then if_scalar o ≡ Some c → (o ≡ Some c) × (scalar c ≡ true)
scalar_step None c h = absurd (cc)
scalar_step (Some n) c h = let is = scalar_test (scalar n) n c refl h in (ap Some is.0, is.1)

pub scalar_from : (word : List ℕ) (c : ℕ) → scalar_value word ≡ Some c → IsScalarOf word c
unfolding scalar_value
scalar_from word c h = scalar_step (code_value word) c h

pub from_scalar : (word : List ℕ) (c : ℕ) → IsScalarOf word c → scalar_value word ≡ Some c
unfolding scalar_value
from_scalar word c h = ap (option_and_then if_scalar) h.0 ∙ cond-true (scalar c) (Some c) None h.1

-- so many of them
few_test : (t : Bool) (most : ℕ) (xs ys : List ℕ) → (leb 1 (length xs) && leb (length xs) most) ≡ t → cond t (Some xs) None ≡ Some ys → (xs ≡ ys) × (1 ≤ length ys) × (length ys ≤ most)
few_test true most xs ys e h =
    let same : xs ≡ ys = cc in
    let both = and_parts (leb 1 (length ys)) (leb (length ys) most) (ap (λ (l : List ℕ). leb 1 (length l) && leb (length l) most) (sym same) ∙ e) in
    (same, leb-true 1 (length ys) both.0, leb-true (length ys) most both.1)
few_test false most xs ys e h = absurd (cc)

pub short_from : (most : ℕ) (o : Option (List ℕ)) (ys : List ℕ) → option_and_then (if_short most) o ≡ Some ys → (o ≡ Some ys) × (1 ≤ length ys) × (length ys ≤ most)
short_from most None ys h = absurd (cc)
short_from most (Some xs) ys h =
    let is = few_test (leb 1 (length xs) && leb (length xs) most) most xs ys refl h in
    (ap Some is.0, is.1, is.2)

pub from_short : (most : ℕ) (ys : List ℕ) → 1 ≤ length ys → length ys ≤ most → if_short most ys ≡ Some ys
from_short most ys some few =
    cond-true (leb 1 (length ys) && leb (length ys) most) (Some ys) None
    (and_from (leb 1 (length ys)) (leb (length ys) most) (le-leb 1 (length ys) some) (le-leb (length ys) most few))

-- What words say, each by a function that is a relation's both ways.
module _ (value : List ℕ → Option ℕ) where
  zip_step : (R : List ℕ → ℕ → Type 0) → ((w : List ℕ) (c : ℕ) → value w ≡ Some c → R w c) → (word : List ℕ) (words : List (List ℕ)) (codes : List ℕ) (first : Option ℕ) (rest : Option (List ℕ)) → value word ≡ first → ((cs : List ℕ) → rest ≡ Some cs → AllZip R words cs) → option_and_then (λ code. option_map (λ codes. code ∷ codes) rest) first ≡ Some codes → AllZip R (word ∷ words) codes
  zip_step R says word words codes None rest e ih h = absurd (cc)
  zip_step R says word words codes (Some c) None e ih h = absurd (cc)
  zip_step R says word words codes (Some c) (Some cs) e ih h =
      let same : c ∷ cs ≡ codes = cc in
      subst (AllZip R (word ∷ words)) same (says word c e, ih cs refl)

  zip_none : (R : List ℕ → ℕ → Type 0) (codes : List ℕ) → Some [] ≡ Some codes → AllZip R [] codes
  zip_none R [] h = tt
  zip_none R (c ∷ codes) h = absurd (cc)

  pub zip_from : (R : List ℕ → ℕ → Type 0) → ((w : List ℕ) (c : ℕ) → value w ≡ Some c → R w c) → (words : List (List ℕ)) (codes : List ℕ) → values_of value words ≡ Some codes → AllZip R words codes
  unfolding values_of
  zip_from R says [] codes h = zip_none R codes h
  zip_from R says (word ∷ words) codes h = zip_step R says word words codes (value word) (values_of value words) refl (zip_from R says words) h

  pub from_zip : (R : List ℕ → ℕ → Type 0) → ((w : List ℕ) (c : ℕ) → R w c → value w ≡ Some c) → (words : List (List ℕ)) (codes : List ℕ) → AllZip R words codes → values_of value words ≡ Some codes
  unfolding values_of
  from_zip R said [] [] h = refl
  from_zip R said [] (c ∷ codes) h = absurd h
  from_zip R said (word ∷ words) [] h = absurd h
  from_zip R said (word ∷ words) (c ∷ codes) h =
      ap (option_and_then (λ code. option_map (λ codes. code ∷ codes) (values_of value words))) (said word c h.0)
      ∙ ap (option_map (λ codes. c ∷ codes)) (from_zip R said words codes h.1)

-- what was said so far, and what the words that are left say
abbrev pub joined : List ℕ → Option (List ℕ) → Option (List ℕ)
joined done rest = option_map (λ codes. done ++ codes) rest

pub joined_step : (code : ℕ) (done : List ℕ) (rest : Option (List ℕ)) → joined done (option_map (λ codes. code ∷ codes) rest) ≡ joined (done ++ code ∷ []) rest
joined_step code done None = refl
joined_step code done (Some codes) = ap Some (sym (append_assoc done (code ∷ []) codes))

joined_nil : (rest : Option (List ℕ)) → rest ≡ joined [] rest
joined_nil None = refl
joined_nil (Some codes) = refl

pub joined_none : (done : List ℕ) (rest : Option (List ℕ)) → done ≡ [] → rest ≡ joined done rest
joined_none done rest h = joined_nil rest ∙ ap (λ items. joined items rest) (sym h)

module _ (value : List ℕ → Option ℕ) where
  values_word : (words : List (List ℕ)) (word : List ℕ) (more : List (List ℕ)) → words ≡ word ∷ more → values_of value words ≡ option_and_then (λ code. option_map (λ codes. code ∷ codes) (values_of value more)) (value word)
  unfolding values_of
  values_word words word more h = ap (values_of value) h

  -- the same before and after a word that is left
  pub joined_more : (all : Option (List ℕ)) (done : List ℕ) (words : List (List ℕ)) (word : List ℕ) (more : List (List ℕ)) (code : ℕ) → all ≡ joined done (values_of value words) → words ≡ word ∷ more → value word ≡ Some code → all ≡ joined (done ++ code ∷ []) (values_of value more)
  joined_more all done words word more code total split good =
      total ∙ ap (joined done) (values_word words word more split ∙ ap (option_and_then (λ code. option_map (λ codes. code ∷ codes) (values_of value more))) good)
      ∙ joined_step code done (values_of value more)

  pub joined_bad : (all : Option (List ℕ)) (done : List ℕ) (words : List (List ℕ)) (word : List ℕ) (more : List (List ℕ)) → all ≡ joined done (values_of value words) → words ≡ word ∷ more → value word ≡ None → all ≡ None
  joined_bad all done words word more total split bad =
      total ∙ ap (joined done) (values_word words word more split ∙ ap (option_and_then (λ code. option_map (λ codes. code ∷ codes) (values_of value more))) bad)

  pub joined_all : (all : Option (List ℕ)) (done : List ℕ) (words : List (List ℕ)) → all ≡ joined done (values_of value words) → words ≡ [] → all ≡ Some done
  unfolding values_of
  joined_all all done words total none = total ∙ ap (λ ws. joined done (values_of value ws)) none ∙ ap Some (append-nil done)

  too_long : (most code : ℕ) (done : List ℕ) (rest : Option (List ℕ)) → most ≤ length done → option_and_then (if_short most) (joined (done ++ code ∷ []) rest) ≡ None
  too_long most code done None l = refl
  too_long most code done (Some codes) l =
      let longer : most < length (done ++ code ∷ [] ++ codes) = omega (arith, length-append (done ++ code ∷ []) codes, length-append done (code ∷ [])) in
      let n = length (done ++ code ∷ [] ++ codes) in
      cond-false (leb 1 n && leb n most) (Some (done ++ code ∷ [] ++ codes)) None (and_right (leb 1 n) (leb n most) (lt-leb n most longer))

  -- one more where there are so many
  pub short_long : (most : ℕ) (all : Option (List ℕ)) (done : List ℕ) (words : List (List ℕ)) (word : List ℕ) (more : List (List ℕ)) (code : ℕ) → all ≡ joined done (values_of value words) → words ≡ word ∷ more → value word ≡ Some code → most ≤ length done → option_and_then (if_short most) all ≡ None
  short_long most all done words word more code total split good l =
      ap (option_and_then (if_short most)) (joined_more all done words word more code total split good) ∙ too_long most code done (values_of value more) l

  -- all were said
  pub short_all : (most : ℕ) (all : Option (List ℕ)) (done : List ℕ) (words : List (List ℕ)) → all ≡ joined done (values_of value words) → words ≡ [] → length done ≤ most → option_and_then (if_short most) all ≡ cond (not (is_empty done)) (Some done) None
  short_all most all [] words total none l = ap (option_and_then (if_short most)) (joined_all all [] words total none)
  short_all most all (x ∷ xs) words total none l =
      ap (option_and_then (if_short most)) (joined_all all (x ∷ xs) words total none) ∙ from_short most (x ∷ xs) (omega arith) l

pub is_empty-length : (xs : List ℕ) → is_empty xs ≡ eqb (length xs) 0
is_empty-length [] = refl
is_empty-length (x ∷ xs) = sym (ne_eqb (length (x ∷ xs)) 0 (λ e. omega arith))
