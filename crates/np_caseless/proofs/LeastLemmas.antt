-- The least number of several.
use Rattle.std.proofs.Common.{◌≡◌, ℕ, ◌+◌, ◌⊎◌, Bool, true, false, leb, Option, Some, None, refl, sym, subst, inl, inr, arith}
use Rattle.std.proofs.lemmas.Bool.{cond-true, cond-false, leb-true, leb-false}
use Rattle.np_versions.specs.inside.FirstFaults.{IsFirst, IsLeastOf}
use Rattle.np_caseless.specs.inside.FirstFaults.{Below}
use Rattle.np_caseless.specs.inside.Leasts.{least}
use Rattle.np_caseless.proofs.FirstLemmas.{below_none, below_next, below_here, below_more}

-- the least of those that have one property is that of those that have an equal one
pub first_alike : (P Q : ℕ → Type 0) (o : Option ℕ) → ((c : ℕ) → P c → Q c) → ((c : ℕ) → Q c → P c) → IsFirst P o → IsFirst Q o
first_alike P Q None there back h = λ c q. h c (back c q)
first_alike P Q (Some n) there back h = record { holds = there n h.holds; least = λ d q. h.least d (back d q) }

least_two : (P Q : ℕ → Type 0) (m n : ℕ) (t : Bool) → leb m n ≡ t → IsLeastOf P m → IsLeastOf Q n → IsFirst (λ c. P c ⊎ Q c) (least (Some m) n)
least_two P Q m n true e h k =
    let le = leb-true m n e in
    subst (IsFirst (λ c. P c ⊎ Q c)) (sym (cond-true (leb m n) (Some m) (Some n) e))
    (record { holds = inl h.holds; least = λ d either. elim either [ inl p ↦ h.least d p | inr q ↦ let more = k.least d q in omega arith ] })
least_two P Q m n false e h k =
    let lt = leb-false m n e in
    subst (IsFirst (λ c. P c ⊎ Q c)) (sym (cond-false (leb m n) (Some m) (Some n) e))
    (record { holds = inr k.holds; least = λ d either. elim either [ inl p ↦ let more = h.least d p in omega arith | inr q ↦ k.least d q ] })

-- the least of both
pub least_of_both : (P Q : ℕ → Type 0) (o : Option ℕ) (n : ℕ) → IsFirst P o → IsLeastOf Q n → IsFirst (λ c. P c ⊎ Q c) (least o n)
least_of_both P Q None n h k =
    record { holds = inr k.holds; least = λ d either. elim either [ inl p ↦ absurd (h d p) | inr q ↦ k.least d q ] }
least_of_both P Q (Some m) n h k = least_two P Q m n (leb m n) refl h k

pub first_of_both : (P Q : ℕ → Type 0) (o : Option ℕ) → IsFirst P o → ((c : ℕ) → ¬ (Q c)) → IsFirst (λ c. P c ⊎ Q c) o
first_of_both P Q o h none =
    first_alike P (λ c. P c ⊎ Q c) o (λ c p. inl p) (λ c either. elim either [ inl p ↦ p | inr q ↦ absurd (none c q) ]) h

-- at the first places, and at one more
module _ (At : ℕ → ℕ → Type 0) where
  pub first_none : IsFirst (Below At 0) None
  first_none = λ c h. below_none At c h

  both_next : (i : ℕ) (o : Option ℕ) → IsFirst (λ c. Below At i c ⊎ At i c) o → IsFirst (Below At (i + 1)) o
  both_next i o h =
      first_alike (λ c. Below At i c ⊎ At i c) (Below At (i + 1)) o
      (λ c either. elim either [ inl before ↦ below_more At i c before | inr here ↦ below_here At i c here ]) (below_next At i) h

  pub first_kept : (i : ℕ) (o : Option ℕ) → IsFirst (Below At i) o → ((c : ℕ) → ¬ (At i c)) → IsFirst (Below At (i + 1)) o
  first_kept i o h none = both_next i o (first_of_both (Below At i) (At i) o h none)

  pub first_grown : (i : ℕ) (o : Option ℕ) (n : ℕ) → IsFirst (Below At i) o → At i n → ((c : ℕ) → At i c → c ≡ n) → IsFirst (Below At (i + 1)) (least o n)
  first_grown i o n h here only =
      both_next i (least o n) (least_of_both (Below At i) (At i) o n h (record { holds = here; least = λ d at. let same = only d at in omega arith }))
