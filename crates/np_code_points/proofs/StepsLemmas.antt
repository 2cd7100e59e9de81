-- Runs of a relation.
use Rattle.std.proofs.Common.{◌≡◌, ℕ, zero, suc, refl, sym, ap, subst, ◌∙◌}
use Rattle.np_code_points.specs.Steps.{ReachesIn, Reaches}

module _ {A : Type 0} (Step : A → A → Type 0) where
  pub stays : (a : A) → Reaches Step a a
  stays a = (zero, refl)

  pub stays_at : (a b : A) → a ≡ b → Reaches Step a b
  stays_at a b e = (zero, e)

  pub one_more : (a b c : A) → Step a b → Reaches Step b c → Reaches Step a c
  one_more a b c s r = (suc r.0, (b, s, r.1))

  pub one_step : (a b : A) → Step a b → Reaches Step a b
  one_step a b s = one_more a b b s (stays b)

  join_in : (n : ℕ) (a b c : A) → ReachesIn Step n a b → Reaches Step b c → Reaches Step a c
  join_in zero a b c e r = subst (λ (x : A). Reaches Step x c) (sym e) r
  join_in (suc n) a b c s r = one_more a s.0 c s.1 (join_in n s.0 b c s.2 r)

  pub join : (a b c : A) → Reaches Step a b → Reaches Step b c → Reaches Step a c
  join a b c r s = join_in r.0 a b c r.1 s

  -- what each step keeps, a run keeps
  keeps_in : {B : Type 0} (f : A → B) → ((a b : A) → Step a b → f a ≡ f b) → (n : ℕ) (a b : A) → ReachesIn Step n a b → f a ≡ f b
  keeps_in f kept zero a b e = ap f e
  keeps_in f kept (suc n) a b s = kept a s.0 s.1 ∙ keeps_in f kept n s.0 b s.2

  pub keeps : {B : Type 0} (f : A → B) → ((a b : A) → Step a b → f a ≡ f b) → (a b : A) → Reaches Step a b → f a ≡ f b
  keeps f kept a b r = keeps_in f kept r.0 a b r.1

  -- what carries each step over carries a run over
  along_in : (f : A → A) → ((a b : A) → Step a b → Step (f a) (f b)) → (n : ℕ) (a b : A) → ReachesIn Step n a b → Reaches Step (f a) (f b)
  along_in f over zero a b e = stays_at (f a) (f b) (ap f e)
  along_in f over (suc n) a b s = one_more (f a) (f s.0) (f b) (over a s.0 s.1) (along_in f over n s.0 b s.2)

  pub along : (f : A → A) → ((a b : A) → Step a b → Step (f a) (f b)) → (a b : A) → Reaches Step a b → Reaches Step (f a) (f b)
  along f over a b r = along_in f over r.0 a b r.1
