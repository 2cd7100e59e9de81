-- Eight bytes are ASCII exactly where no bit of their mask is set.
use Rattle.std.proofs.Common.{◌≡◌, ◌+◌, ◌<◌, ◌≤◌, ◌^◌, ◌%◌, ℕ, cond, leb, leb-false, List, [], ◌∷◌, ◌*◌, drop, length, map, replicate, get_or, suc, refl, subst, sym, ap, ap₂, ◌∙◌, arith}
use Rattle.std.proofs.lemmas.Bool.{lt-leb}
use Rattle.std.proofs.lemmas.List.{get_or-drop, length-map}
use Rattle.std.proofs.lemmas.Simd.{leading_from_mask_l, length-chunk, mask_l-mod, run_in_chunk_fails, tops_compared, zip2_splat_left}
use Rattle.np_versions.proofs.AsciiLemmas.{low_take}
use lib.Lanes.{chunk, mask_l, top, zip2}
use mir.Syntax.{w8}

-- the mask of eight bytes
others_mask : (xs : List ℕ) → length xs ≡ 8 → mask_l (map (top 7) (zip2 (λ a b. cond (leb a b) 255 0) (replicate 8 128) xs)) % 2 ^ 64 ≡ mask_l (map (λ x. leb 128 x) xs)
others_mask xs long =
    ap (λ l. mask_l l % 2 ^ 64) (tops_compared w8 leb (replicate 8 128) xs ∙ zip2_splat_left leb 128 8 xs long)
    ∙ mask_l-mod (map (λ x. leb 128 x) xs) 64 (omega (arith, long, length-map xs (λ x. leb 128 x)))

pub low_lanes : (bytes : List ℕ) (from : ℕ) → from + 8 ≤ length bytes
    → mask_l (map (top 7) (zip2 (λ a b. cond (leb a b) 255 0) (replicate 8 128) (chunk from 8 bytes))) % 2 ^ 64 ≡ 0
    → (k : ℕ) → from ≤ k → k < from + 8 → get_or bytes k 0 < 128
low_lanes bytes from room none k begins ends =
    let long = length-chunk from 8 bytes room in
    let clear = sym (others_mask (chunk from 8 bytes) long) ∙ none in
    let counted = sym (leading_from_mask_l (λ x. leb 128 x) (chunk from 8 bytes) clear ∙ long) in
    leb-false 128 (get_or bytes k 0) (run_in_chunk_fails (λ x. leb 128 x) bytes from 8 8 0 room counted k begins ends)

-- bytes of ASCII set no bit
clear_mask : (xs : List ℕ) → ((i : ℕ) → get_or xs i 0 < 128) → mask_l (map (λ x. leb 128 x) xs) ≡ 0
clear_mask [] low = refl
clear_mask (x ∷ xs) low = ap₂ (λ b n. cond b 1 0 + 2 * n) (lt-leb 128 x (low 0)) (clear_mask xs (λ i. low (suc i)))

pub lanes_pass : (bytes : List ℕ) (from : ℕ) → from + 8 ≤ length bytes → ((k : ℕ) → from ≤ k → k < from + 8 → get_or bytes k 0 < 128)
    → mask_l (map (top 7) (zip2 (λ a b. cond (leb a b) 255 0) (replicate 8 128) (chunk from 8 bytes))) % 2 ^ 64 ≡ 0
lanes_pass bytes from room low =
    let there = λ (k : ℕ) (lt : k < 8). subst (λ n. n < 128) (sym (get_or-drop from bytes k 0)) (low (from + k) (omega arith) (omega (arith, lt))) in
    others_mask (chunk from 8 bytes) (length-chunk from 8 bytes room) ∙ clear_mask (chunk from 8 bytes) (low_take 8 (drop from bytes) there)
