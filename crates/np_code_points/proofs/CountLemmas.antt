-- How often a byte stands in a slice, by steps.
use Rattle.std.proofs.Common.{◌≡◌, ℕ, zero, suc, ◌+◌, ◌-◌, ◌≤◌, ◌*◌, ◌/◌, ◌^◌, Bool, true, false, cond, eqb, List, [], ◌∷◌, ◌++◌, length, map, drop, count_by, sym, ap, ◌∙◌, arith}
use Rattle.std.specs.Int.RustNames.{count_ones}
use Rattle.std.proofs.Math.Nat.{div-one, zero-div, div-div-eq-div-mul, pow-succ'}
use Rattle.std.proofs.lemmas.List.{take_all, drop-map, drop-drop, length-drop}
use Rattle.std.proofs.lemmas.List.Sums.{sum_by-append}
use Rattle.std.proofs.lemmas.Simd.{chunk-drop, ones-mask_l}
use lib.Lanes.{chunk, mask_l}

count_append : (p : ℕ → Bool) (xs ys : List ℕ) → count_by p (xs ++ ys) ≡ count_by p xs + count_by p ys
count_append p xs ys = sum_by-append (λ x. cond (p x) 1 0) xs ys

-- what a step counts, and what is left
pub step_counted : (p : ℕ → Bool) (xs : List ℕ) (at n : ℕ) → count_by p (drop at xs) ≡ count_by p (drop 0 (chunk at n xs)) + count_by p (drop (at + n) xs)
step_counted p xs at n = ap (count_by p) (chunk-drop at n xs) ∙ count_append p (chunk at n xs) (drop (at + n) xs)

-- the last step, without what was counted already
pub last_counted : (p : ℕ → Bool) (xs : List ℕ) (at n : ℕ) → n ≤ length xs → at ≤ length xs → length xs - at ≤ n → count_by p (drop (n - (length xs - at)) (chunk (length xs - n) n xs)) ≡ count_by p (drop at xs)
last_counted p xs at n long within short =
    let place : length xs - n + (n - (length xs - at)) ≡ at = omega arith in
    ap (λ l. count_by p (drop (n - (length xs - at)) l)) (take_all n (drop (length xs - n) xs) (omega (arith, length-drop (length xs - n) xs)))
    ∙ ap (count_by p) (drop-drop (n - (length xs - at)) (length xs - n) xs ∙ ap (λ k. drop k xs) place)

-- a mask without its lowest bits
half : (t : Bool) (n : ℕ) → (cond t 1 zero + 2 * n) / 2 ≡ n
half true n = omega arith
half false n = omega arith

pub mask_dropped : (k : ℕ) (ms : List Bool) → mask_l ms / 2 ^ k ≡ mask_l (drop k ms)
mask_dropped zero ms = div-one (mask_l ms)
mask_dropped (suc k) [] = zero-div (2 ^ suc k)
mask_dropped (suc k) (m ∷ ms) =
    ap (λ n. mask_l (m ∷ ms) / n) (pow-succ' 2 k)
    ∙ sym (div-div-eq-div-mul (mask_l (m ∷ ms)) 2 (2 ^ k))
    ∙ ap (λ n. n / 2 ^ k) (half m (mask_l ms))
    ∙ mask_dropped k ms

pub ones_dropped : (byte k mask : ℕ) (xs : List ℕ) → mask ≡ mask_l (map (λ x. eqb x byte) xs) → count_ones (mask / 2 ^ k) ≡ count_by (λ x. eqb x byte) (drop k xs)
ones_dropped byte k mask xs h =
    ap (λ m. count_ones (m / 2 ^ k)) h
    ∙ ap count_ones (mask_dropped k (map (λ x. eqb x byte) xs) ∙ ap mask_l (drop-map (λ x. eqb x byte) k xs))
    ∙ ones-mask_l (λ x. eqb x byte) (drop k xs)
