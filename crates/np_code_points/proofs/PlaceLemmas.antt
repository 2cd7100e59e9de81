-- How far it is to the first such byte.
use Rattle.std.proofs.Common.{◌≡◌, ◌≢◌, zero, suc, ℕ, ◌+◌, ◌<◌, ◌≤◌, ◌-◌, Bool, true, false, not, cond, eqb, List, [], ◌∷◌, length, map, take, drop, Option, Some, None, refl, sym, ap, ◌∙◌, arith}
use Rattle.std.specs.List.{prefix_len}
use Rattle.std.proofs.lemmas.Bool.{cond-true, cond-false, eq-eqb, ne_eqb}
use Rattle.std.proofs.lemmas.List.{take_all, take_rest}
use Rattle.std.proofs.lemmas.List.Folds.{prefix_len-append}
use Rattle.std.proofs.lemmas.List.Sums.{prefix_len-le-length}
use Rattle.std.proofs.lemmas.Simd.{chunk-drop, length-chunk, leading_from_mask_l, trailing_mask_l}
use lib.Count.{count_trailing_zeros}
use lib.Lanes.{chunk, mask_l}
use Rattle.np_code_points.specs.inside.LineCuts.{before_first, after_first, before_byte, after_byte, is_other}

before_step : (t : Bool) (x : ℕ) (xs before : List ℕ) (n : ℕ) → before ≡ take n xs → cond t [] (x ∷ before) ≡ take (cond (not t) (1 + n) 0) (x ∷ xs)
before_step true x xs before n h = refl
before_step false x xs before n h =
    let one : suc n ≡ 1 + n = omega arith in
    ap (λ r. x ∷ r) h ∙ ap (λ k. take k (x ∷ xs)) one

-- what stands before the first that passes
pub before_is_take : (p : ℕ → Bool) (xs : List ℕ) → before_first p xs ≡ take (prefix_len (λ b. not (p b)) xs) xs
before_is_take p [] = refl
before_is_take p (x ∷ xs) = before_step (p x) x xs (before_first p xs) (prefix_len (λ b. not (p b)) xs) (before_is_take p xs)

found_step : (t : Bool) (x : ℕ) (xs : List ℕ) (after : Option (List ℕ)) (n : ℕ) → (n < length xs → after ≡ Some (drop (n + 1) xs)) → cond (not t) (1 + n) 0 < length (x ∷ xs) → cond t (Some xs) after ≡ Some (drop (cond (not t) (1 + n) 0 + 1) (x ∷ xs))
found_step true x xs after n h l = refl
found_step false x xs after n h l =
    let one : suc (n + 1) ≡ 1 + n + 1 = omega arith in
    h (omega arith) ∙ ap (λ k. Some (drop k (x ∷ xs))) one

-- what stands behind it, where there is one
pub after_is_drop : (p : ℕ → Bool) (xs : List ℕ) → prefix_len (λ b. not (p b)) xs < length xs → after_first p xs ≡ Some (drop (prefix_len (λ b. not (p b)) xs + 1) xs)
after_is_drop p [] l = absurd (omega arith)
after_is_drop p (x ∷ xs) l = found_step (p x) x xs (after_first p xs) (prefix_len (λ b. not (p b)) xs) (after_is_drop p xs) l

none_step : (t : Bool) (x : ℕ) (xs : List ℕ) (after : Option (List ℕ)) (n : ℕ) → (length xs ≤ n → after ≡ None) → length (x ∷ xs) ≤ cond (not t) (1 + n) 0 → cond t (Some xs) after ≡ None
none_step true x xs after n h l = absurd (omega arith)
none_step false x xs after n h l = h (omega arith)

pub after_is_none : (p : ℕ → Bool) (xs : List ℕ) → length xs ≤ prefix_len (λ b. not (p b)) xs → after_first p xs ≡ None
after_is_none p [] l = refl
after_is_none p (x ∷ xs) l = none_step (p x) x xs (after_first p xs) (prefix_len (λ b. not (p b)) xs) (after_is_none p xs) l

-- so do the two cuts
pub cut_before : (byte n : ℕ) (xs : List ℕ) → n ≡ prefix_len (is_other byte) xs → take n xs ≡ before_byte byte xs
cut_before byte n xs h = ap (λ k. take k xs) h ∙ sym (before_is_take (λ b. eqb b byte) xs)

pub cut_nowhere : (byte n : ℕ) (xs : List ℕ) → n ≡ prefix_len (is_other byte) xs → length xs ≤ n → xs ≡ before_byte byte xs
cut_nowhere byte n xs h l = sym (take_all n xs l) ∙ cut_before byte n xs h

pub cut_after : (byte n : ℕ) (xs : List ℕ) → n ≡ prefix_len (is_other byte) xs → n < length xs → Some (take (length xs - (n + 1)) (drop (n + 1) xs)) ≡ after_byte byte xs
cut_after byte n xs h l =
    ap Some (take_rest xs (n + 1) ∙ ap (λ k. drop (k + 1) xs) h)
    ∙ sym (after_is_drop (λ b. eqb b byte) xs (omega (arith, h, l)))

pub cut_none : (byte n : ℕ) (xs : List ℕ) → n ≡ prefix_len (is_other byte) xs → length xs ≤ n → None ≡ after_byte byte xs
cut_none byte n xs h l = sym (after_is_none (λ b. eqb b byte) xs (omega (arith, h, l)))

-- a step that passes some bytes, and one that finds another
pub step_passes : (p : ℕ → Bool) (xs : List ℕ) (at n : ℕ) → at + n ≤ length xs → prefix_len p (chunk at n xs) ≡ n → prefix_len p (drop at xs) ≡ n + prefix_len p (drop (at + n) xs)
step_passes p xs at n room h =
    let long = length-chunk at n xs room in
    ap (prefix_len p) (chunk-drop at n xs) ∙ prefix_len-append p (chunk at n xs) (drop (at + n) xs)
    ∙ cond-true _ _ _ (eq-eqb _ _ (h ∙ sym long)) ∙ ap (λ k. k + prefix_len p (drop (at + n) xs)) long

pub step_finds : (p : ℕ → Bool) (xs : List ℕ) (at n : ℕ) → at + n ≤ length xs → prefix_len p (chunk at n xs) < n → prefix_len p (drop at xs) ≡ prefix_len p (chunk at n xs)
step_finds p xs at n room h =
    let long = length-chunk at n xs room in
    ap (prefix_len p) (chunk-drop at n xs) ∙ prefix_len-append p (chunk at n xs) (drop (at + n) xs)
    ∙ cond-false _ _ _ (ne_eqb (prefix_len p (chunk at n xs)) (length (chunk at n xs)) (λ e. omega (arith, e, long, h)))

positive : (n : ℕ) → (n ≢ 0) → 0 < n
positive zero h = absurd (h refl)
positive (suc n) h = omega arith

-- the mask of a step, whose lowest bit stands for the first such byte
pub no_bit : (n byte : ℕ) (xs : List ℕ) (mask : ℕ) → length xs ≡ n → mask ≡ mask_l (map (λ x. eqb x byte) xs) → mask ≡ 0 → n ≡ prefix_len (is_other byte) xs
no_bit n byte xs mask long is none = sym (leading_from_mask_l (λ x. eqb x byte) xs (sym is ∙ none) ∙ long)

pub lowest_bit : (n byte : ℕ) (xs : List ℕ) (mask : ℕ) → length xs ≡ n → n ≤ 64 → mask ≡ mask_l (map (λ x. eqb x byte) xs) → (mask ≢ 0) → count_trailing_zeros 64 mask ≡ prefix_len (is_other byte) xs
lowest_bit n byte xs mask long small is some =
    ap (count_trailing_zeros 64) is
    ∙ trailing_mask_l (λ x. eqb x byte) 64 xs (omega (arith, long)) (positive (mask_l (map (λ x. eqb x byte) xs)) (λ e. some (is ∙ e)))

pub run_le : (p : ℕ → Bool) (xs : List ℕ) (at n : ℕ) → at + n ≤ length xs → prefix_len p (chunk at n xs) ≤ n
run_le p xs at n room = omega (arith, prefix_len-le-length p (chunk at n xs), length-chunk at n xs room)
