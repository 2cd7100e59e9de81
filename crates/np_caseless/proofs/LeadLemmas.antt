-- The bytes that begin characters of several bytes, as bits.
use Rattle.std.proofs.Common.{◌≡◌, ◌≢◌, ℕ, zero, suc, ◌+◌, ◌-◌, ◌/◌, ◌%◌, ◌^◌, ◌<◌, ◌≤◌, Bool, true, false, cond, List, ◌++◌, drop, get_or, length, map, replicate, refl, sym, ap, subst, take, ◌∙◌, arith, inl, inr, w8}
use Rattle.std.proofs.lemmas.Bool.{cases_eq, cases_lt, leb-true, leb-false}
use Rattle.std.proofs.lemmas.List.{get_or_append_left, get_or-append_right, get_or-drop, get_or-map, get_or_past, get_or-replicate, length-drop, length-map, length-replicate, take_rest}
use Rattle.std.proofs.lemmas.Simd.{bit_mask_l, get_or-chunk, length-chunk, mask_l-mod, tops_compared, zip2_splat_left}
use Rattle.std.proofs.lemmas.Nat.Bits.{bit_at-suc, bit_at_lowest}
use Rattle.std.specs.Int.{bit_at}
use Rattle.np_caseless.specs.inside.SimpleTexts.{AreLeads}
use lib.Dec.{leb}
use lib.Lanes.{chunk, mask_l, top, zip2}

-- the mask of 64 lanes
mask_is : (xs : List ℕ) → length xs ≡ 64
    → mask_l (map (top 7) (zip2 (λ a b. cond (leb a b) 255 0) (replicate 64 192) xs)) % 2 ^ 64 ≡ mask_l (map (λ x. leb 192 x) xs)
mask_is xs long =
    ap (λ l. mask_l l % 2 ^ 64) (tops_compared w8 leb (replicate 64 192) xs ∙ zip2_splat_left leb 192 64 xs long)
    ∙ mask_l-mod (map (λ x. leb 192 x) xs) 64 (omega (arith, long, length-map xs (λ x. leb 192 x)))

one_set : (b : Bool) → ◌≡◌ {A = ℕ} (cond b 1 0) 1 → b ≡ true
one_set true e = refl
one_set false e = absurd (omega (arith, e))

none_set : (b : Bool) → ◌≡◌ {A = ℕ} (cond b 1 0) 0 → b ≡ false
none_set true e = absurd (omega (arith, e))
none_set false e = refl

pub lane_leads : (bytes : List ℕ) (mask : ℕ) → 64 ≤ length bytes
    → mask ≡ mask_l (map (top 7) (zip2 (λ a b. cond (leb a b) 255 0) (replicate 64 192) (chunk 0 64 bytes))) % 2 ^ 64 → AreLeads bytes 0 0 64 mask
lane_leads bytes mask long is =
    let xs = chunk 0 64 bytes in
    let size : length xs ≡ 64 = length-chunk 0 64 bytes long in
    let bit : (k : ℕ) → bit_at mask k ≡ cond (get_or (map (λ x. leb 192 x) xs) k false) 1 0 =
    λ k. ap (λ m. bit_at m k) (is ∙ mask_is xs size) ∙ bit_mask_l (map (λ x. leb 192 x) xs) k in
    let lane : (k : ℕ) → k < 64 → get_or (map (λ x. leb 192 x) xs) k false ≡ leb 192 (get_or bytes (0 + k) 0) =
    λ k lt. get_or-map (λ x. leb 192 x) xs k 0 false (omega (arith, size, lt)) ∙ ap (λ n. leb 192 n) (get_or-chunk 0 64 bytes k 0 lt) in
    let inside : (k : ℕ) → bit_at mask k ≡ 1 → k < 64 = λ k one. elim (cases_lt k 64) [
      | inl lt ↦ lt
      | inr past ↦
          let none = get_or_past (map (λ x. leb 192 x) xs) k false (omega (arith, past, size, length-map xs (λ x. leb 192 x))) in
          absurd (omega (arith, one, bit k, ap {B = ℕ} (λ b. cond b 1 0) none))
    ] in
    record {
      set = λ k one.
          leb-true 192 (get_or bytes (0 + k) 0) (sym (lane k (inside k one)) ∙ one_set (get_or (map (λ x. leb 192 x) xs) k false) (sym (bit k) ∙ one));
      behind = λ k one. omega arith;
      before = λ k one. omega (arith, inside k one);
      clear = λ k zero later lt. leb-false 192 (get_or bytes (0 + k) 0)
          (sym (lane k (omega (arith, lt))) ∙ none_set (get_or (map (λ x. leb 192 x) xs) k false) (sym (bit k) ∙ zero));
    }

-- those of lanes that have the bytes of a text from a place on
pub leads_there : (lanes text : List ℕ) (from bits : ℕ) → ((k : ℕ) → get_or lanes k 0 ≡ get_or text (from + k) 0) → AreLeads lanes 0 0 64 bits
    → AreLeads text from from (from + 64) bits
leads_there lanes text from bits same are = record {
  set = λ k one. omega (arith, same k, are.set k one, ap (λ n. get_or lanes n 0) (none k));
  behind = λ k one. omega arith;
  before = λ k one. omega (arith, are.before k one);
  clear = λ k zero later lt. omega (arith, same k, are.clear k zero (omega arith) (omega (arith, lt)), ap (λ n. get_or lanes n 0) (none k));
}
  where
    none : (k : ℕ) → 0 + k ≡ k
    none k = omega arith

zeros : (n i : ℕ) → ◌≡◌ {A = ℕ} (get_or (replicate n 0) i 0) 0
zeros n i =
    elim (cases_lt i n) [
      | inl less ↦ get_or-replicate n i 0 0 less
      | inr more ↦ get_or_past (replicate n 0) i 0 (omega (arith, more, length-replicate {A = ℕ} n 0))
    ]

-- of what is left of a text, with zeros behind it
pub leads_few : (text few : List ℕ) (from bits : ℕ) → few ≡ take (length text - from) (drop from text) → from ≤ length text
    → AreLeads (few ++ drop (length (take (length text - from) (drop from text))) (replicate 64 0)) 0 0 64 bits → AreLeads text from from (from + 64) bits
leads_few text few from bits is within are =
    leads_there (few ++ behind) text from bits same (subst (λ n. AreLeads (few ++ drop n (replicate 64 0)) 0 0 64 bits) (sym (ap length is)) are)
  where
    behind : List ℕ
    behind = drop (length few) (replicate 64 0)

    rest : few ≡ drop from text
    rest = is ∙ take_rest text from

    same : (k : ℕ) → get_or (few ++ behind) k 0 ≡ get_or text (from + k) 0
    same k =
        elim (cases_lt k (length few)) [
          | inl less ↦ get_or_append_left few behind 0 k less ∙ ap (λ l. get_or l k 0) rest ∙ get_or-drop from text k 0
          | inr more ↦
              get_or-append_right few behind (length few) k 0 refl more
              ∙ get_or-drop (length few) (replicate 64 0) (k - length few) 0
              ∙ zeros 64 (length few + (k - length few))
              ∙ sym (get_or_past text (from + k) 0 (omega (arith, more, ap length rest, length-drop from text, within)))
        ]

-- the number before one has the same bits behind a place, and none there
abbrev IsLessOne : ℕ → ℕ → Type 0
IsLessOne t n = (bit_at (n - 1) t ≡ 0) × ((k : ℕ) → t < k → bit_at (n - 1) k ≡ bit_at n k)

less_one_odd : (n : ℕ) → n % 2 ≡ 1 → IsLessOne 0 n
less_one_odd n odd = (omega (arith, odd, bit_at_lowest (n - 1)), same)
  where
    same : (k : ℕ) → 0 < k → bit_at (n - 1) k ≡ bit_at n k
    same zero more = absurd (omega (arith, more))
    same (suc k) more =
        let half : (n - 1) / 2 ≡ n / 2 = omega (arith, odd) in
        bit_at-suc (n - 1) k ∙ ap (λ m. bit_at m k) half ∙ sym (bit_at-suc n k)

less_one_even : (t n : ℕ) → n % 2 ≡ 0 → IsLessOne t (n / 2) → IsLessOne (suc t) n
less_one_even t n even below = (halved t ∙ below.0, same)
  where
    half : (n - 1) / 2 ≡ n / 2 - 1
    half = omega (arith, even)

    halved : (k : ℕ) → bit_at (n - 1) (suc k) ≡ bit_at (n / 2 - 1) k
    halved k = bit_at-suc (n - 1) k ∙ ap (λ m. bit_at m k) half

    same : (k : ℕ) → suc t < k → bit_at (n - 1) k ≡ bit_at n k
    same zero more = absurd (omega (arith, more))
    same (suc k) more = halved k ∙ below.1 k (omega (arith, more)) ∙ sym (bit_at-suc n k)

-- the place is that of the lowest bit
pub bits_less_one : (t n : ℕ) → bit_at n t ≡ 1 → ((k : ℕ) → k < t → bit_at n k ≡ 0) → IsLessOne t n
bits_less_one zero n one first = less_one_odd n (omega (arith, one, bit_at_lowest n))
bits_less_one (suc t) n one first =
    less_one_even t n (sym (bit_at_lowest n) ∙ first 0 (omega arith))
    (bits_less_one t (n / 2) (sym (bit_at-suc n t) ∙ one) (λ k less. sym (bit_at-suc n k) ∙ first (suc k) (omega (arith, less))))

-- without the lowest, of a character that was passed
pub leads_past : (text : List ℕ) (end later from to bits rest t : ℕ) → AreLeads text end from to bits → bit_at bits t ≡ 1
    → bit_at rest t ≡ 0 → ((k : ℕ) → k ≢ t → bit_at rest k ≡ bit_at bits k) → ((k : ℕ) → k < t → bit_at bits k ≡ 0)
    → from + t < later → ((j : ℕ) → from + t < j → j < later → get_or text j 0 < 192) → AreLeads text later from to rest
leads_past text end later from to bits rest t are one off kept first some inside = record {
  set = λ k on. are.set k (was k on);
  behind = λ k on.
      elim (cases_lt (from + k) later) [
        | inr far ↦ far
        | inl near ↦
            elim (cases_lt k t) [
              | inl less ↦ absurd (omega (arith, first k less, was k on))
              | inr more ↦ absurd (omega (arith, are.set k (was k on), inside (from + k) (omega (arith, more, others k on)) near))
            ]
      ];
  before = λ k on. are.before k (was k on);
  clear = λ k clear behind lt.
      elim (cases_eq k t) [
        | inl same ↦ absurd (omega (arith, same, behind, some))
        | inr other ↦ are.clear k (sym (kept k other) ∙ clear) (omega (arith, behind, are.behind t one, some)) lt
      ];
}
  where
    others : (k : ℕ) → bit_at rest k ≡ 1 → k ≢ t
    others k on = λ same. omega (arith, on, off, ap (bit_at rest) same)

    was : (k : ℕ) → bit_at rest k ≡ 1 → bit_at bits k ≡ 1
    was k on = sym (kept k (others k on)) ∙ on
