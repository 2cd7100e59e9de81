-- A walk over files for the first one of a name.
use Rattle.std.proofs.Common.{◌≡◌, ℕ, suc, zero, ◌+◌, ◌<◌, ◌≤◌, List, [], ◌∷◌, Bool, true, false, None, Some, ap, arith, drop, get_or, length, refl, sym, ◌∙◌}
use Rattle.std.proofs.Common.{if◌then◌else◌}
use Rattle.std.specs.Str.{bytes_eq}
use Rattle.np_examples_jobs.specs.inside.Shelves.{text_named}

if_true : {A : Type 0} (b : Bool) (x y : A) → b ≡ true → (if b then x else y) ≡ x
if_true true x y h = refl
if_true false x y h = absurd (cc)

if_false : {A : Type 0} (b : Bool) (x y : A) → b ≡ false → (if b then x else y) ≡ y
if_false true x y h = absurd (cc)
if_false false x y h = refl

module _ {A : Type 0} (name_of text_of : A → List ℕ) (any : A) (name : List ℕ) where
  passed_at : (files : List A) (i : ℕ) → i < length files → bytes_eq (name_of (get_or files i any)) name ≡ false
      → text_named name_of text_of (drop (suc i) files) name ≡ text_named name_of text_of (drop i files) name
  passed_at [] i inside other = absurd (omega (arith, inside))
  passed_at (f ∷ files) zero inside other = sym (if_false (bytes_eq (name_of f) name) _ _ other)
  passed_at (f ∷ files) (suc i) inside other = passed_at files i (omega (arith, inside)) other

  -- the file at a place has another name
  pub passed : (files : List A) (i : ℕ) → i < length files → bytes_eq (name_of (get_or files i any)) name ≡ false
      → text_named name_of text_of (drop (i + 1) files) name ≡ text_named name_of text_of (drop i files) name
  passed files i inside other =
      let on : i + 1 ≡ suc i = omega arith in
      ap (λ n. text_named name_of text_of (drop n files) name) on ∙ passed_at files i inside other

  -- the file at a place has the name
  pub found : (files : List A) (i : ℕ) → i < length files → bytes_eq (name_of (get_or files i any)) name ≡ true
      → text_named name_of text_of (drop i files) name ≡ Some (text_of (get_or files i any))
  found [] i inside same = absurd (omega (arith, inside))
  found (f ∷ files) zero inside same = if_true (bytes_eq (name_of f) name) _ _ same
  found (f ∷ files) (suc i) inside same = found files i (omega (arith, inside)) same

module _ {A : Type 0} (name_of text_of : A → List ℕ) (name : List ℕ) where
  -- no file is left
  pub none_left : (files : List A) (i : ℕ) → length files ≤ i → text_named name_of text_of (drop i files) name ≡ None
  none_left [] zero all = refl
  none_left [] (suc i) all = refl
  none_left (f ∷ files) zero all = absurd (omega (arith, all))
  none_left (f ∷ files) (suc i) all = none_left files i (omega (arith, all))
