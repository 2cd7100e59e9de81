-- Only what is listed folds, and no surrogate does.
use Rattle.std.proofs.Common.{◌≡◌, ℕ, zero, suc, ◌+◌, ◌<◌, ◌⊎◌, Bool, true, false, eqb, List, [], ◌∷◌, length, Some, refl, ap, subst, ◌∙◌, inl, inr, arith}
use Rattle.std.specs.List.{All}
use Rattle.std.proofs.lemmas.Bool.{both_ways, cases_Bool, cases_lt, cond-false, eqb-true}
use Rattle.std.proofs.lemmas.List.Elements.{All-head, All-tail}
use Rattle.std.proofs.lemmas.Slice.Eq.{bytes_eq-Decides}
use lib.Utf8.{scalar}
use Rattle.np_foldings.specs.Foldings.{Folding, IsFolding, folding_at}
use Rattle.np_caseless.specs.Folded.{is_quiet}
use Rattle.np_caseless.specs.inside.FirstFaults.{Below, IsFoldingAt}

pub quiet_from : (fs : List Folding) (c : ℕ) → folding_at fs c ≡ c ∷ [] → is_quiet fs c ≡ true
unfolding is_quiet
quiet_from fs c e = (bytes_eq-Decides (folding_at fs c) (c ∷ [])).1 e

abbrev IsListed : List Folding → ℕ → Type 0
IsListed fs c = Below (IsFoldingAt fs) (length fs) c

listed_step : (f : Folding) (fs : List Folding) (c : ℕ) (t : Bool) → eqb f.code c ≡ t → (folding_at fs c ≡ c ∷ []) ⊎ IsListed fs c → (folding_at (f ∷ fs) c ≡ c ∷ []) ⊎ IsListed (f ∷ fs) c
unfolding folding_at
listed_step f fs c true e more = inr (0, omega arith, ap Some (eqb-true f.code c e))
listed_step f fs c false e (inl none) = inl (cond-false (eqb f.code c) f.mapping (folding_at fs c) e ∙ none)
listed_step f fs c false e (inr some) = inr (suc some.0, (let lt = some.1 in omega arith), some.2)

listed_or : (fs : List Folding) (c : ℕ) → (folding_at fs c ≡ c ∷ []) ⊎ IsListed fs c
unfolding folding_at
listed_or [] c = inl refl
listed_or (f ∷ fs) c = listed_step f fs c (eqb f.code c) refl (listed_or fs c)

pub listed : (fs : List Folding) (c : ℕ) → is_quiet fs c ≡ false → IsListed fs c
listed fs c folds =
    elim (listed_or fs c) [ inl alone ↦ absurd (both_ways (is_quiet fs c) folds (quiet_from fs c alone)) | inr some ↦ some ]

-- what is listed is a scalar value
listed_scalar : (fs : List Folding) (k c : ℕ) → All IsFolding fs → IsFoldingAt fs k c → scalar c ≡ true
listed_scalar [] k c each at = cc
listed_scalar (f ∷ fs) zero c each at = let is = (All-head IsFolding f fs each).scalar_code in cc
listed_scalar (f ∷ fs) (suc k) c each at = listed_scalar fs k c (All-tail IsFolding f fs each) at

pub surrogate_quiet : (fs : List Folding) (c : ℕ) → All IsFolding fs → ¬ (scalar c ≡ true) → is_quiet fs c ≡ true
surrogate_quiet fs c each none =
    elim (cases_Bool (is_quiet fs c)) [
      | inl quiet ↦ quiet
      | inr folds ↦ let at = listed fs c folds in absurd (none (listed_scalar fs at.0 c each at.2))
    ]

-- what holds of each code point that is listed before a place and at it
pub none_more : (fs : List Folding) (p : ℕ → Bool) (i : ℕ) → ((k d : ℕ) → k < i → IsFoldingAt fs k d → p d ≡ false) → ((d : ℕ) → IsFoldingAt fs i d → p d ≡ false)
    → (k d : ℕ) → k < i + 1 → IsFoldingAt fs k d → p d ≡ false
none_more fs p i before here k d lt at =
    elim (cases_lt k i) [
      | inl less ↦ before k d less at
      | inr le ↦ let same : k ≡ i = omega arith in here d (subst (λ n. IsFoldingAt fs n d) same at)
    ]

-- where no code point that is listed passes a test, all that pass are quiet
pub quiet_where : (fs : List Folding) (p : ℕ → Bool) → ((k d : ℕ) → k < length fs → IsFoldingAt fs k d → p d ≡ false) → (c : ℕ) → p c ≡ true → is_quiet fs c ≡ true
quiet_where fs p none c passes =
    elim (cases_Bool (is_quiet fs c)) [
      | inl quiet ↦ quiet
      | inr folds ↦ let at = listed fs c folds in absurd (both_ways (p c) (none at.0 c at.1 at.2) passes)
    ]
