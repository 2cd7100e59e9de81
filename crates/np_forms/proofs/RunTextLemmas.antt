-- Bytes that were read up to some place, and what is a text of them.
use Rattle.std.proofs.Common.{◌≡◌, ℕ, zero, suc, ◌+◌, ◌-◌, ◌≤◌, true, false, List, ◌++◌, length, take, drop, IsUtf8, refl, sym, ap, subst, ◌∙◌, arith, inl, inr, length-append}
use Rattle.np_forms.proofs.Words.{cases_Bool, cases_lt, cond-true, cond-false, take_all, take_at, drop_at, length-drop}
use Rattle.std.proofs.lemmas.Str.{IsUtf8-nil, IsUtf8-append, IsUtf8-drop, IsCharBoundary-from_take, IsUtf8-from_is_utf8, is_utf8-from_IsUtf8}
use Rattle.std.proofs.Math.Seq.{take-add}
use Rattle.std.specs.Str.{is_utf8}
use Rattle.std.specs.Str.Lossy.{utf8_valid_len, valid_len_up_to}
use Rattle.np_code_points.specs.Text.{IsLongestValidPrefix}

-- what follows a text in a text is one
pub IsUtf8-rest : (a b : List ℕ) → IsUtf8 (a ++ b) → IsUtf8 a → IsUtf8 b
IsUtf8-rest a b whole front =
    let fits : length a ≤ length (a ++ b) = omega (arith, length-append a b) in
    let cut = IsCharBoundary-from_take (a ++ b) (length a) whole fits (subst IsUtf8 (sym (take_at a b (length a) refl)) front) in
    subst IsUtf8 (drop_at a b (length a) refl) (IsUtf8-drop (a ++ b) (length a) whole cut)

pub take_past : (a b : List ℕ) (n : ℕ) → take (length a + n) (a ++ b) ≡ a ++ take n b
take_past a b n =
    take-add (length a) n (a ++ b) ∙ ap (λ l. l ++ take n (drop (length a) (a ++ b))) (take_at a b (length a) refl)
    ∙ ap (λ l. a ++ take n l) (drop_at a b (length a) refl)

-- the longest prefix of a text and of what follows it
pub prefix_past : (a b : List ℕ) (n : ℕ) → IsUtf8 a → IsLongestValidPrefix b n → IsLongestValidPrefix (a ++ b) (length a + n)
prefix_past a b n text h =
    record {
      within = omega (arith, h.within, length-append a b);
      valid = subst IsUtf8 (sym (take_past a b n)) (IsUtf8-append a (take n b) text h.valid);
      longest = λ m within valid.
          elim (cases_lt (length a) m) [
            | inr low ↦ omega arith
            | inl past ↦
                let k = m - length a in
                let is : m ≡ length a + k = omega arith in
                let rest = IsUtf8-rest a (take k b) (subst IsUtf8 (ap (λ x. take x (a ++ b)) is ∙ take_past a b k) valid) text in
                let most = h.longest k (omega (arith, length-append a b)) rest in
                omega arith
          ];
    }

-- nothing behind the longest prefix is a text
pub prefix_left : (bytes : List ℕ) (n : ℕ) → IsLongestValidPrefix bytes n → IsLongestValidPrefix (drop n bytes) 0
prefix_left bytes n h =
    let sizes = length-drop n bytes in
    record {
      within = omega arith;
      valid = IsUtf8-nil;
      longest = λ m within valid.
          let more = h.longest (n + m) (omega (arith, h.within, sizes)) (subst IsUtf8 (sym (take-add n m bytes)) (IsUtf8-append (take n bytes) (take m (drop n bytes)) h.valid valid)) in
          omega arith;
    }

up_to : (bs : List ℕ) (n : ℕ) → (valid_len_up_to bs n ≤ n) × (IsUtf8 (take (valid_len_up_to bs n) bs)) × ((m : ℕ) → m ≤ n → IsUtf8 (take m bs) → m ≤ valid_len_up_to bs n)
up_to bs zero = (omega arith, IsUtf8-nil, λ m low u. low)
up_to bs (suc n) =
    let r = up_to bs n in
    elim (cases_Bool (is_utf8 (take (suc n) bs))) [
      | inl whole ↦
          let is : valid_len_up_to bs (suc n) ≡ suc n = cond-true _ _ _ whole in
          (omega arith, subst (λ k. IsUtf8 (take k bs)) (sym is) (IsUtf8-from_is_utf8 _ whole), λ m low u. omega arith)
      | inr cut ↦
          let is : valid_len_up_to bs (suc n) ≡ valid_len_up_to bs n = cond-false _ _ _ cut in (
            omega (arith, r.0),
            subst (λ k. IsUtf8 (take k bs)) (sym is) r.1,
            λ m low u.
                elim (cases_lt m (suc n)) [
                  | inl below ↦ (let most = r.2 m (omega arith) u in omega arith)
                  | inr same ↦
                      let e : m ≡ suc n = omega arith in
                      let clash : true ≡ false = sym (is_utf8-from_IsUtf8 _ (subst (λ k. IsUtf8 (take k bs)) e u)) ∙ cut in
                      cc
                ],
          )
    ]

-- each list of bytes has a longest prefix that is UTF-8
pub longest_prefix : (bs : List ℕ) → IsLongestValidPrefix bs (utf8_valid_len bs)
unfolding utf8_valid_len
longest_prefix bs = let r = up_to bs (length bs) in record { within = r.0; valid = r.1; longest = r.2 }

-- and one only
pub one_prefix : (bs : List ℕ) (n : ℕ) → IsLongestValidPrefix bs n → utf8_valid_len bs ≡ n
one_prefix bs n h =
    let other = longest_prefix bs in
    let up = h.longest (utf8_valid_len bs) other.within other.valid in
    let down = other.longest n h.within h.valid in
    omega arith

-- a text is its own longest prefix
pub whole_prefix : (bs : List ℕ) (n : ℕ) → n ≡ length bs → IsUtf8 bs → IsLongestValidPrefix bs n
whole_prefix bs n is utf8 =
    record { within = omega arith; valid = subst IsUtf8 (sym (take_all n bs (omega arith))) utf8; longest = λ m within valid. omega arith }
