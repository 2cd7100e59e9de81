-- What was sent: messages and their strings, by number.
use Rattle.std.proofs.Common.{◌≡◌, ℕ, zero, suc, ◌≤◌, List, [], ◌∷◌, ◌++◌, length, slice_get, Some, None, refl, sym, ap, subst, arith}
use Rattle.std.specs.Prelude.{MatchOption}
use Rattle.np_world.specs.World.{Setting}
use Rattle.np_world.specs.inside.Mirrors.{IsMessageOf, AreMessages}

-- ---- lists

pub match-some : {A : Type 0} (xs : List A) (k : ℕ) (x : A) → slice_get xs k ≡ Some x → (P : Type 0) (Q : A → Type 0) → Q x → MatchOption (slice_get xs k) P Q
match-some xs k x here P Q h = subst (λ o. MatchOption o P Q) (sym here) h

pub match-none : {A : Type 0} (xs : List A) (k : ℕ) → slice_get xs k ≡ None → (P : Type 0) (Q : A → Type 0) → P → MatchOption (slice_get xs k) P Q
match-none xs k none P Q h = subst (λ o. MatchOption o P Q) (sym none) h

-- where no element stands, the list has ended
pub ended : {A : Type 0} (xs : List A) (k : ℕ) → slice_get xs k ≡ None → length xs ≤ k
ended [] k none = omega arith
ended (x ∷ xs) zero none = absurd (cc)
ended (x ∷ xs) (suc k) none = omega (arith, ended xs k none)

-- ---- messages

pub length-messages : (setting : Setting) (told : List (List ℕ)) (strings : List (List ℕ)) → AreMessages setting told strings → length told ≡ length strings
length-messages setting [] [] are = refl
length-messages setting (b ∷ bs) (s ∷ ss) are = ap suc (length-messages setting bs ss are.1)
length-messages setting [] (s ∷ ss) are = absurd are
length-messages setting (b ∷ bs) [] are = absurd are

pub messages-push : (setting : Setting) (told : List (List ℕ)) (strings : List (List ℕ)) (b : List ℕ) (s : List ℕ) → AreMessages setting told strings → IsMessageOf setting b s → AreMessages setting (told ++ b ∷ []) (strings ++ s ∷ [])
messages-push setting [] [] b s are of = (of, tt)
messages-push setting (x ∷ xs) (t ∷ ts) b s are of = (are.0, messages-push setting xs ts b s are.1 of)
messages-push setting [] (t ∷ ts) b s are of = absurd are
messages-push setting (x ∷ xs) [] b s are of = absurd are

-- the string of the message of a number
pub record HasMessage (setting : Setting) (strings : List (List ℕ)) (number : ℕ) (bytes : List ℕ) : Type 0 where
  pub string : List ℕ
  pub here : slice_get strings number ≡ Some string
  pub of : IsMessageOf setting bytes string

pub message_at : (setting : Setting) (told : List (List ℕ)) (strings : List (List ℕ)) (number : ℕ) (b : List ℕ) → AreMessages setting told strings → slice_get told number ≡ Some b → HasMessage setting strings number b
message_at setting [] strings number b are here = cc
message_at setting (x ∷ xs) [] number b are here = absurd are
message_at setting (x ∷ xs) (s ∷ ss) zero b are here = let same : x ≡ b = cc in record { string = s; here = refl; of = subst (λ (w : List ℕ). IsMessageOf setting w s) same are.0 }
message_at setting (x ∷ xs) (s ∷ ss) (suc number) b are here = let rest = message_at setting xs ss number b are.1 here in record { string = rest.string; here = rest.here; of = rest.of }
