-- The lowest bit of a mask of bytes that are not ASCII.
use Rattle.std.proofs.Common.{◌≡◌, ◌≢◌, zero, suc, ℕ, ◌+◌, ◌<◌, ◌≤◌, ◌^◌, ◌%◌, cond, leb, List, [], ◌∷◌, length, map, replicate, take, get_or, sym, ap, ◌∙◌, arith}
use Rattle.np_versions.proofs.Words.{prefix_len, leb-false, length-map, leading_from_mask_l, mask_l-mod, run_in_chunk_fails, run_in_chunk_le, run_in_chunk_stops, tops_compared}
use Rattle.np_versions.proofs.Words.{trailing_mask_l, count_trailing_zeros, chunk, mask_l, top, zip2}
use mir.Syntax.{w8}
use Rattle.std.proofs.lemmas.Simd.{zip2_splat_left}
use Rattle.np_versions.specs.inside.AsciiBytes.{is_ascii_byte}

-- the mask of sixteen bytes
pub others_mask : (xs : List ℕ) → length xs ≡ 16 → mask_l (map (top 7) (zip2 (λ a b. cond (leb a b) 255 0) (replicate 16 128) xs)) % 2 ^ 64 ≡ mask_l (map (λ x. leb 128 x) xs)
others_mask xs long =
    ap (λ l. mask_l l % 2 ^ 64) (tops_compared w8 leb (replicate 16 128) xs ∙ zip2_splat_left leb 128 16 xs long)
    ∙ mask_l-mod (map (λ x. leb 128 x) xs) 64 (omega (arith, long, length-map xs (λ x. leb 128 x)))

pub positive : (n : ℕ) → (n ≢ 0) → 0 < n
positive n h = grind arith

pub no_others : (xs : List ℕ) (mask : ℕ) → length xs ≡ 16 → mask ≡ mask_l (map (λ x. leb 128 x) xs) → mask ≡ 0 → 16 ≡ prefix_len is_ascii_byte xs
no_others xs mask long is none = sym (leading_from_mask_l (λ x. leb 128 x) xs (sym is ∙ none) ∙ long)

pub first_other : (xs : List ℕ) (mask : ℕ) → length xs ≡ 16 → mask ≡ mask_l (map (λ x. leb 128 x) xs) → (mask ≢ 0) → count_trailing_zeros 64 mask ≡ prefix_len is_ascii_byte xs
first_other xs mask long is some = grind (arith, trailing_mask_l, positive)

-- so many bytes more are ASCII
pub quick_check_le : (bytes : List ℕ) (at passed : ℕ) → at + 16 ≤ length bytes → passed ≡ prefix_len is_ascii_byte (chunk at 16 bytes) → passed ≤ 16
quick_check_le bytes at passed room is = run_in_chunk_le (λ x. leb 128 x) bytes at 16 passed 0 room is

pub lanes_ascii : (bytes : List ℕ) (at passed : ℕ) → at + 16 ≤ length bytes → passed ≡ prefix_len is_ascii_byte (chunk at 16 bytes) → ((k : ℕ) → k < at → get_or bytes k 0 < 128) → (k : ℕ) → k < at + passed → get_or bytes k 0 < 128
lanes_ascii bytes at passed room is so_far k lt =
    let before = so_far k in
    let behind = λ (h : at ≤ k). leb-false 128 (get_or bytes k 0) (run_in_chunk_fails (λ x. leb 128 x) bytes at 16 passed 0 room is k h lt) in
    grind arith

-- the byte behind them is not
pub lanes_end : (bytes : List ℕ) (at passed : ℕ) → at + 16 ≤ length bytes → passed ≡ prefix_len is_ascii_byte (chunk at 16 bytes) → passed < 16 → 128 ≤ get_or bytes (at + passed) 0
lanes_end bytes at passed room is few =
    let stops = run_in_chunk_stops (λ x. leb 128 x) bytes at 16 passed 0 room is few in
    grind arith

-- as a list of their own
pub low_take : (n : ℕ) (bytes : List ℕ) → ((k : ℕ) → k < n → get_or bytes k 0 < 128) → (i : ℕ) → get_or (take n bytes) i 0 < 128
low_take zero bytes low i = omega arith
low_take (suc n) [] low i = omega arith
low_take (suc n) (x ∷ xs) low zero = low 0 (omega arith)
low_take (suc n) (x ∷ xs) low (suc i) = low_take n xs (λ k lt. low (suc k) (omega arith)) i
