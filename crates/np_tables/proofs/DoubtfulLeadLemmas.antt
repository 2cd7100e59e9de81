-- What quick checks have in common, and which bytes are doubtful for it.
use Rattle.std.proofs.Common.{◌≡◌, ℕ, ◌+◌, ◌-◌, ◌*◌, ◌/◌, ◌%◌, ◌^◌, ◌<◌, ◌≤◌, false, not, cond, eqb, List, length, map, replicate, get_or, set, bit_and, refl, sym, ap, subst, ◌∙◌, arith, inl, inr}
use Rattle.np_tables.proofs.Words.{AreHalfSafe, AreSafe, HaveYesInCommon, high_bits, is_doubtful, lead_byte, property_place, quick_check_in, row_of}
use Rattle.np_tables.proofs.Words.{Form, Nfd, Nfc, Nfkd, Nfkc, cases_lt, eqb-true, get_or-map, get_or-set_other, get_or-set_same, mask_l, not-false, top, zip2}
use Rattle.np_tables.specs.inside.QuickChecks.{quick_check_place}
use Rattle.np_versions.proofs.Utf8Lemmas.{encode_four, encode_three, encode_two}
use Rattle.std.proofs.lemmas.Nat.{and_le_l, and_le_r, and_mod, and_shr}
use Rattle.std.proofs.lemmas.Simd.{bit_mask_l, bitmask_splat, get_or-zip2, length-zip2}
use Rattle.std.specs.Int.{bit_at}
use Rattle.std.specs.Int.Bits.{and_zero_r}
use mir.Syntax.{w8}

-- the quick check of a form, of the bits in common
pub quick_check-and : (form : Form) (a b : ℕ) → quick_check_in form (bit_and a b) ≡ bit_and (quick_check_in form a) (quick_check_in form b)
quick_check-and form a b =
    let p = quick_check_place form in
    ap (λ n. n % 256) (and_shr a b p) ∙ and_mod (a / 2 ^ p) (b / 2 ^ p) 8

-- what is 255 in both is so in each
pub both-255 : (form : Form) (a b : ℕ) → quick_check_in form (bit_and a b) ≡ 255 → (quick_check_in form a ≡ 255) × (quick_check_in form b ≡ 255)
both-255 form a b all =
    let x = quick_check_in form a in
    let y = quick_check_in form b in
    let same = sym (quick_check-and form a b) ∙ all in
    let below : (n : ℕ) → n % 256 < 256 = λ n. omega arith in
    (omega (arith, same, and_le_l x y, below (a / 2 ^ quick_check_place form)), omega (arith, same, and_le_r x y, below (b / 2 ^ quick_check_place form)))

-- ---- the code points that begin with a byte

-- the place of a quick check in a part of 64 code points
pub place-part : (blocks : List ℕ) (part c : ℕ) → part * 64 ≤ c → c < part * 64 + 64 → property_place blocks c ≡ get_or blocks (part / 4) 0 * 256 + part % 4 * 64 + (c - part * 64)
unfolding property_place
place-part blocks part c low high =
    let block : c / 256 ≡ part / 4 = omega (arith, low, high) in
    omega (arith, low, high, ap (λ n. get_or blocks n 0 * 256) block)

-- which upper halves have which bits
module _ (form : Form) (blocks quick_checks : List ℕ) (low bits c0 d0 e0 : ℕ) (small : low < 16)
    (of_c0 : bit_and bits 1 ≡ 0 → quick_check_in form c0 ≡ 255) (of_d0 : bit_and bits 2 ≡ 0 → quick_check_in form d0 ≡ 255)
    (of_e0 : bit_and bits 4 ≡ 0 → quick_check_in form e0 ≡ 255) (of_f0 : bit_and bits 8 ≡ 8)
    (in_c0 : HaveYesInCommon blocks quick_checks (low * 64) (low * 64 + 64) c0) (in_d0 : HaveYesInCommon blocks quick_checks (low * 64 + 1024) (low * 64 + 1088) d0)
    (in_e0 : HaveYesInCommon blocks quick_checks (low * 4096) (low * 4096 + 4096) e0) where
  pub half_safe : AreHalfSafe form blocks quick_checks low bits
  half_safe c scalar several half clear =
      elim (cases_lt c 0x800) [
        | inl few ↦
            let byte : lead_byte c ≡ 192 + c / 64 = ap (λ l. get_or l 0 0) (encode_two c several few) in
            elim (cases_lt c 0x400) [
              | inl less ↦
                  let upper : lead_byte c / 16 ≡ 12 = omega (arith, byte, less) in
                  in_c0 form (of_c0 (ap (λ n. bit_and bits (get_or high_bits n 0)) (sym upper) ∙ clear)) c (omega (arith, byte, half, less)) (omega (arith, byte, half, less))
              | inr more ↦
                  let upper : lead_byte c / 16 ≡ 13 = omega (arith, byte, more, few) in
                  in_d0 form (of_d0 (ap (λ n. bit_and bits (get_or high_bits n 0)) (sym upper) ∙ clear)) c (omega (arith, byte, half, more, few)) (omega (arith, byte, half, more, few))
            ]
        | inr many ↦
            elim (cases_lt c 0x10000) [
              | inl less ↦
                  let byte : lead_byte c ≡ 224 + c / 4096 = ap (λ l. get_or l 0 0) (encode_three c many less) in
                  let upper : lead_byte c / 16 ≡ 14 = omega (arith, byte, less) in
                  in_e0 form (of_e0 (ap (λ n. bit_and bits (get_or high_bits n 0)) (sym upper) ∙ clear)) c (omega (arith, byte, half, less)) (omega (arith, byte, half, less))
              | inr most ↦
                  let byte : lead_byte c ≡ 240 + c / 262144 = ap (λ l. get_or l 0 0) (encode_four c most) in
                  let upper : lead_byte c / 16 ≡ 15 = omega (arith, byte, scalar) in
                  absurd (omega (arith, of_f0, ap (λ n. bit_and bits (get_or high_bits n 0)) (sym upper) ∙ clear))
            ]
      ]

-- one half more
pub halves_more : (form : Form) (blocks quick_checks row : List ℕ) (low bits : ℕ) → low < length row → ((k : ℕ) → k < low → AreHalfSafe form blocks quick_checks k (get_or row k 0)) → AreHalfSafe form blocks quick_checks low bits
    → (k : ℕ) → k < low + 1 → AreHalfSafe form blocks quick_checks k (get_or (set row low bits) k 0)
halves_more form blocks quick_checks row low bits within before next k lt =
    elim (cases_lt k low) [
      | inl less ↦ subst (AreHalfSafe form blocks quick_checks k) (sym (get_or-set_other row low k bits 0 (omega (arith, less)))) (before k less)
      | inr more ↦
          let last : low ≡ k = omega (arith, lt, more) in
          subst (λ n. AreHalfSafe form blocks quick_checks n (get_or (set row low bits) n 0)) last (subst (AreHalfSafe form blocks quick_checks low) (sym (get_or-set_same row low bits 0 within)) next)
    ]

pub safe_of_halves : (form : Form) (blocks quick_checks row : List ℕ) → ((k : ℕ) → k < 16 → AreHalfSafe form blocks quick_checks k (get_or row k 0)) → AreSafe form blocks quick_checks row
safe_of_halves form blocks quick_checks row halves c scalar several safe =
    halves (lead_byte c % 16) (omega arith) c scalar several refl (eqb-true _ _ (not-false _ safe))

-- under each form
module _ (blocks quick_checks nfd nfc nfkd nfkc : List ℕ) (of_nfd : (k : ℕ) → k < 16 → AreHalfSafe Nfd blocks quick_checks k (get_or nfd k 0)) (of_nfc : (k : ℕ) → k < 16 → AreHalfSafe Nfc blocks quick_checks k (get_or nfc k 0))
    (of_nfkd : (k : ℕ) → k < 16 → AreHalfSafe Nfkd blocks quick_checks k (get_or nfkd k 0)) (of_nfkc : (k : ℕ) → k < 16 → AreHalfSafe Nfkc blocks quick_checks k (get_or nfkc k 0)) where
  pub of_each : (form : Form) → AreSafe form blocks quick_checks (row_of form record { nfd = nfd; nfc = nfc; nfkd = nfkd; nfkc = nfkc })
  of_each Nfd = safe_of_halves Nfd blocks quick_checks nfd of_nfd
  of_each Nfc = safe_of_halves Nfc blocks quick_checks nfc of_nfc
  of_each Nfkd = safe_of_halves Nfkd blocks quick_checks nfkd of_nfkd
  of_each Nfkc = safe_of_halves Nfkc blocks quick_checks nfkc of_nfkc

-- a byte below C0 is not doubtful
pub low_byte-safe : (row : List ℕ) (byte : ℕ) → byte < 192 → is_doubtful row byte ≡ false
low_byte-safe row byte low =
    let none : get_or high_bits (byte / 16) 0 ≡ 0 = grind (arith, low) in
    ap (λ n. not (eqb n 0)) (ap (bit_and (get_or row (byte % 16) 0)) none ∙ and_zero_r (get_or row (byte % 16) 0))

-- ---- the mask of the lanes

pub doubtful_bit : (row here a b : List ℕ) (k : ℕ) → length a ≡ 64 → length b ≡ 64 → k < 64 → get_or a k 0 ≡ get_or row (get_or here k 0 % 16) 0 → get_or b k 0 ≡ get_or high_bits (get_or here k 0 / 16) 0
    → bit_at (mask_l (map (top 7) (zip2 (λ x y. cond (not (eqb x y)) 255 0) (zip2 bit_and a b) (replicate 64 0))) % 2 ^ 64) k ≡ cond (is_doubtful row (get_or here k 0)) 1 0
doubtful_bit row here a b k long same lt by_lower by_upper =
    let xs = zip2 bit_and a b in
    let size : length xs ≡ 64 = length-zip2 bit_and a b (long ∙ sym same) ∙ long in
    ap (λ m. bit_at m k) (bitmask_splat w8 (λ x y. not (eqb x y)) xs 64 0 size (omega arith)) ∙ bit_mask_l (map (λ x. not (eqb x 0)) xs) k
    ∙ ap (λ t. cond t 1 0) (get_or-map (λ x. not (eqb x 0)) xs k 0 false (omega (arith, size, lt))
    ∙ ap (λ n. not (eqb n 0)) (get_or-zip2 bit_and a b k 0 0 0 (omega (arith, long, lt)) (omega (arith, same, lt)) ∙ ap (λ n. bit_and n (get_or b k 0)) by_lower ∙ ap (bit_and (get_or row (get_or here k 0 % 16) 0)) by_upper))
