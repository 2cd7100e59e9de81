-- Bytes that are written piece by piece.
use Rattle.std.proofs.Common.{◌≡◌, refl, ◌+◌, ◌-◌, ◌≤◌, ◌++◌, ℕ, List, Option, Result, Ok, Err, OnErr, MatchResult, IsOk, length, length-append, take, drop, ap, sym, subst, ◌∙◌, append_assoc}
use Rattle.std.specs.Io.KnownBytes.{Appends, Consumes}
use Rattle.std.proofs.KnownBytes.{Appends-trans, Consumes-trans}
use Rattle.std.proofs.Math.Seq.{take-add}
use Rattle.std.proofs.lemmas.List.{take_rest}

-- the first bytes, and then n of `&bytes[at..]`
pub appended_more : (a b c : Option (List ℕ)) (bytes : List ℕ) (at n : ℕ) → Appends a b (take at bytes)
    → Appends b c (take n (take (length bytes - at) (drop at bytes))) → Appends a c (take (at + n) bytes)
appended_more a b c bytes at n p q =
    let whole = ap (take n) (take_rest bytes at) in
    subst (Appends a c) (sym (take-add at n bytes)) (Appends-trans a b c _ _ p (subst (Appends b c) whole q))

-- what was read before a piece, and the piece, under a limit
pub taken_more : (a same b c : Option (List ℕ)) (front : List ℕ) (most : ℕ) → same ≡ a → Consumes same b front
    → ((came : List ℕ) × (length front + length came ≤ most) × Consumes b c came)
    → (xs : List ℕ) × (length xs ≤ most) × Consumes a c xs
taken_more a same b c front most e p (came, fits, q) =
    (front ++ came, simp length-append fits, Consumes-trans a b c front came (subst (λ s. Consumes s b front) e p) q)

-- what holds anyway holds at `Err`
pub on_err : {T E : Type 0} (r : Result T E) (P : Type 0) → P → OnErr r P
on_err (Ok _) P p = tt
on_err (Err _) P p = p

-- a check of text that is text answers `Ok`
pub ok_at_utf8 : {T E U : Type 0} (r : Result T E) (P : T → Type 0) (Q : E → Type 0) → MatchResult r P (λ e. ¬ U × Q e) → U → IsOk r
ok_at_utf8 (Ok _) P Q h u = refl
ok_at_utf8 (Err _) P Q h u = absurd (h.0 u)

-- one piece behind another
pub behind : {y z : List ℕ} (x a b : List ℕ) → y ≡ x ++ a → z ≡ y ++ b → z ≡ x ++ (a ++ b)
behind x a b first second = second ∙ ap (λ l. l ++ b) first ∙ append_assoc x a b
