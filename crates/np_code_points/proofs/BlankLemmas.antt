-- Spaces and tabs, as a relation and as a test.
use Rattle.std.proofs.Common.{◌≡◌, ℕ, true, false, eqb, List, [], ◌∷◌, refl, inl, inr, ⊎_elim}
use Rattle.std.specs.List.{list_all}
use Rattle.std.proofs.lemmas.Bool.{eqb-true, eq-eqb, or_cases, or_left, or_right, and_parts, and_from, false_from_ne_true}
use Rattle.std.proofs.lemmas.List.Elements.{All-nil, All-cons, All-head, All-tail}
use Rattle.np_code_points.specs.Lines.{IsBlank, AreBlanks}
use Rattle.np_code_points.specs.inside.LineCuts.{is_blank}

pub blank_true : (b : ℕ) → IsBlank b → is_blank b ≡ true
blank_true b h =
    ⊎_elim (λ e. or_left (eqb b 32) (eqb b 9) (eq-eqb b 32 e)) (λ e. or_right (eqb b 32) (eqb b 9) (eq-eqb b 9 e)) h

pub true_blank : (b : ℕ) → is_blank b ≡ true → IsBlank b
true_blank b h = ⊎_elim (λ e. inl (eqb-true b 32 e)) (λ e. inr (eqb-true b 9 e)) (or_cases (eqb b 32) (eqb b 9) h)

pub blank_false : (b : ℕ) → (IsBlank b → ⊥) → is_blank b ≡ false
blank_false b h = false_from_ne_true (is_blank b) (λ e. h (true_blank b e))

pub true_blanks : (xs : List ℕ) → list_all is_blank xs ≡ true → AreBlanks xs
true_blanks [] h = All-nil IsBlank
true_blanks (x ∷ xs) h =
    let both = and_parts (is_blank x) (list_all is_blank xs) h in
    All-cons IsBlank x xs (true_blank x both.0) (true_blanks xs both.1)

pub blanks_true : (xs : List ℕ) → AreBlanks xs → list_all is_blank xs ≡ true
blanks_true [] h = refl
blanks_true (x ∷ xs) h =
    and_from (is_blank x) (list_all is_blank xs) (blank_true x (All-head IsBlank x xs h)) (blanks_true xs (All-tail IsBlank x xs h))
