-- Codes in hex digits.
use Rattle.std.proofs.Common.{◌≡◌, nat_lt, ℕ, zero, suc, ◌+◌, ◌-◌, ◌*◌, ◌/◌, ◌%◌, ◌^◌, ◌<◌, ◌≤◌, true, false, List, [], ◌∷◌, ◌++◌, map, length, take, drop, get_or, set, replicate, min, Option, Some, None, IfSome, IsNone, is_some, ◌↔◌, inl, inr, sym, ap, subst, ◌∙◌, arith, append_assoc, length-drop, take-append-drop, add-one, lit<}
use Rattle.std.specs.Char.{digit_value}
use Rattle.std.specs.Int.Digits.{digits_of, AllBelowBase}
use Rattle.std.specs.List.{list_all}
use Rattle.std.specs.Str.{IsAscii}
use Rattle.std.specs.Str.Parse.{digits_value}
use Rattle.std.proofs.Math.Nat.{pow-le-pow_right, pow-suc}
use Rattle.std.proofs.lemmas.Bool.{both_ways, cases_Bool, cond_both, false_from_ne_true, and_left, and_right, and_from, and_parts, lt-leb, le-leb, leb-true, ltb-true}
use Rattle.std.proofs.lemmas.Int.Digits.{digits_of_step, all_below_base_digits_of, digits_value_more}
use Rattle.std.proofs.lemmas.List.{map-append, take_all, drop-set, take-set, take-replicate, drop-replicate, length-replicate, drop-append-le, take-append-le}
use Rattle.std.proofs.lemmas.List.Folds.{list_all_more, list_all_at}
use Rattle.std.proofs.lemmas.Str.{IsAscii-append}
use Rattle.np_code_points.specs.Codes.{is_hex_digit, is_code, code_value, hex_digit, code_digits}

-- what a code stands for, where the test is known
pub code_value-code : (bs : List ℕ) → is_code bs ≡ true → code_value bs ≡ Some (digits_value 16 bs)
unfolding code_value
code_value-code bs h = rw h

pub code_value-other : (bs : List ℕ) → is_code bs ≡ false → code_value bs ≡ None
unfolding code_value
code_value-other bs h = rw h

pub code_value-short : (bs : List ℕ) → length bs < 4 → code_value bs ≡ None
code_value-short bs h = code_value-other bs (and_left _ _ (and_left _ _ (lt-leb 4 (length bs) h)))

pub code_value-long : (bs : List ℕ) → 6 < length bs → code_value bs ≡ None
code_value-long bs h = code_value-other bs (and_left _ _ (and_right _ _ (lt-leb (length bs) 6 h)))

pub code_value-no_digit : (bs : List ℕ) → list_all is_hex_digit bs ≡ false → code_value bs ≡ None
code_value-no_digit bs h = code_value-other bs (and_right _ _ (and_left _ _ h))

pub code_value-above : (bs : List ℕ) → 0x10FFFF < digits_value 16 bs → code_value bs ≡ None
code_value-above bs h = code_value-other bs (and_right _ _ (and_right _ _ (lt-leb (digits_value 16 bs) 0x10FFFF h)))

pub code_value-found : (bs : List ℕ) → 4 ≤ length bs → length bs ≤ 6 → list_all is_hex_digit bs ≡ true
    → digits_value 16 bs ≤ 0x10FFFF → code_value bs ≡ Some (digits_value 16 bs)
code_value-found bs low high hex small = code_value-code bs
    (and_from _ _ (and_from _ _ (le-leb 4 (length bs) low) (le-leb (length bs) 6 high))
    (and_from _ _ hex (le-leb (digits_value 16 bs) 0x10FFFF small)))

-- a code stands for a code point
pub code_value-bound : (bs : List ℕ) → IfSome (code_value bs) (λ c. c < 0x110000)
unfolding code_value
code_value-bound bs =
    cond_both (is_code bs) (Some (digits_value 16 bs)) None (λ o. IfSome o (λ c. c < 0x110000))
    (λ e. let small = leb-true (digits_value 16 bs) 0x10FFFF (and_parts _ _ (and_parts _ _ e).1).1 in omega (arith, small))
    (λ e. tt)

-- what follows for an answer
pub none_exactly : (bs : List ℕ) (r : Option ℕ) → r ≡ code_value bs → IsNone r ↔ (is_code bs ≡ false)
none_exactly bs r e = elim (cases_Bool (is_code bs)) [
  | inl code ↦ (λ none. absurd (both_ways _ none (ap is_some (e ∙ code_value-code bs code))), λ other. absurd (both_ways _ other code))
  | inr other ↦ (λ _. other, λ _. ap is_some (e ∙ code_value-other bs other))
]

pub answer_bound : (bs : List ℕ) (r : Option ℕ) → r ≡ code_value bs → IfSome r (λ c. c < 0x110000)
answer_bound bs r e = subst (λ (o : Option ℕ). IfSome o (λ c. c < 0x110000)) (sym e) (code_value-bound bs)

-- at most five hex digits so far
pub below_five : (n i : ℕ) → n < 16 ^ i → i ≤ 5 → n < 1048576
below_five n i h le = let top = pow-le-pow_right {n = 16} (lit< tt) {i = i} {j = 5} le in omega (arith, top)

-- one more digit
pub one_more_digit : (n d i : ℕ) → n < 16 ^ i → d < 16 → n * 16 + d < 16 ^ (i + 1)
one_more_digit n d i h hd = rw (add-one, pow-suc 16 i) (omega arith)

-- the byte at a place is no digit
pub no_digit_at : (bs : List ℕ) (i : ℕ) → i < length bs → (is_hex_digit (get_or bs i 0) ≡ true → ⊥) → code_value bs ≡ None
no_digit_at bs i lt h =
    code_value-no_digit bs (list_all_at is_hex_digit bs i 0 lt (false_from_ne_true (is_hex_digit (get_or bs i 0)) h))

-- it is one
pub digit_at : (bs : List ℕ) (i : ℕ) → i < length bs → list_all is_hex_digit (take i bs) ≡ true
    → is_hex_digit (get_or bs i 0) ≡ true → list_all is_hex_digit (take (i + 1) bs) ≡ true
digit_at bs i lt before h = list_all_more is_hex_digit bs i 0 lt ∙ and_from _ _ before h

pub digit_below : (bs : List ℕ) (i d : ℕ) → is_hex_digit (get_or bs i 0) ≡ true → d ≡ digit_value (get_or bs i 0) → d < 16
digit_below bs i d h e = let below = ltb-true (digit_value (get_or bs i 0)) 16 h in omega (arith, e)

pub value_at : (bs : List ℕ) (i d n : ℕ) → i < length bs → n ≡ digits_value 16 (take i bs)
    → d ≡ digit_value (get_or bs i 0) → n * 16 + d ≡ digits_value 16 (take (i + 1) bs)
value_at bs i d n lt before h =
    ap (λ (k : ℕ). k * 16 + d) before
    ∙ ap (λ (k : ℕ). digits_value 16 (take i bs) * 16 + k) h
    ∙ sym (digits_value_more 16 bs i lt)

-- after the last byte
pub found_in_all : (bs : List ℕ) (i n : ℕ) → length bs ≤ i → 4 ≤ length bs → length bs ≤ 6
    → list_all is_hex_digit (take i bs) ≡ true → n ≡ digits_value 16 (take i bs) → n ≤ 0x10FFFF → code_value bs ≡ Some n
found_in_all bs i n all low high hex value small =
    let whole = take_all i bs all in
    let same : digits_value 16 bs ≡ n = ap (digits_value 16) (sym whole) ∙ sym value in
    code_value-found bs low high (ap (list_all is_hex_digit) (sym whole) ∙ hex) (omega (arith, same, small)) ∙ ap Some same

pub above_in_all : (bs : List ℕ) (i n : ℕ) → length bs ≤ i → n ≡ digits_value 16 (take i bs) → 0x10FFFF < n → code_value bs ≡ None
above_in_all bs i n all value above =
    let same : digits_value 16 bs ≡ n = ap (digits_value 16) (sym (take_all i bs all)) ∙ sym value in
    code_value-above bs (omega (arith, same, above))

-- ---- writing a code

-- one more digit in front
pub one_more_written : (ds rest : List ℕ) (at n : ℕ) → 0 < n → 0 < at → at ≤ length ds
    → map hex_digit (digits_of 16 n) ++ drop at ds ≡ rest
    → map hex_digit (digits_of 16 (n / 16)) ++ drop (at - 1) (set ds (at - 1) (hex_digit (n % 16))) ≡ rest
one_more_written ds rest at n pos before le e =
    let cut : drop (at - 1) (set ds (at - 1) (hex_digit (n % 16))) ≡ hex_digit (n % 16) ∷ drop (at - 1 + 1) ds =
    drop-set ds (at - 1) (hex_digit (n % 16)) (omega arith) in
    let place : at - 1 + 1 ≡ at = omega arith in
    let split : map hex_digit (digits_of 16 n) ≡ map hex_digit (digits_of 16 (n / 16)) ++ hex_digit (n % 16) ∷ [] =
    ap (map hex_digit) (digits_of_step 16 n (omega arith) pos) ∙ map-append hex_digit (digits_of 16 (n / 16)) (n % 16 ∷ []) in
    ap (λ (l : List ℕ). map hex_digit (digits_of 16 (n / 16)) ++ l) (cut ∙ ap (λ (k : ℕ). hex_digit (n % 16) ∷ drop k ds) place)
    ∙ sym (append_assoc (map hex_digit (digits_of 16 (n / 16))) (hex_digit (n % 16) ∷ []) (drop at ds))
    ∙ ap (λ (l : List ℕ). l ++ drop at ds) (sym split) ∙ e

pub front_kept : (ds : List ℕ) (at v : ℕ) → take at ds ≡ replicate at 48
    → take (at - 1) (set ds (at - 1) v) ≡ replicate (at - 1) 48
front_kept ds at v e =
    take-set ds (at - 1) v
    ∙ ap (take (at - 1)) (sym (take-append-drop at ds))
    ∙ ap (λ (l : List ℕ). take (at - 1) (l ++ drop at ds)) e
    ∙ take-append-le (at - 1) (replicate at 48) (drop at ds) (rw length-replicate (omega arith))
    ∙ take-replicate (at - 1) at 48 (omega arith)

pub one_place_less : (n at : ℕ) → 0 < n → n < 16 ^ at → (0 < at) × (n / 16 < 16 ^ (at - 1))
one_place_less n zero pos h = absurd (omega (arith, pos, h))
one_place_less n (suc k) pos h =
    let whole : n < 16 ^ k * 16 = rw (← pow-suc 16 k) h in
    let one : suc k - 1 ≡ k = omega arith in
    (omega arith, rw one (omega (arith, whole)))

-- no digit is left to write
pub none_left : (n : ℕ) (written rest : List ℕ) → n ≤ 0 → map hex_digit (digits_of 16 n) ++ written ≡ rest → written ≡ rest
none_left zero written rest h e = e
none_left (suc n) written rest h e = absurd (omega (arith, h))

-- the zeros in front fill four places
pub code_written : (ds : List ℕ) (at m code : ℕ) → length ds ≡ 8 → at ≤ 8 → m ≡ min at 4 → take at ds ≡ replicate at 48
    → drop at ds ≡ map hex_digit (digits_of 16 code) → take (8 - m) (drop m ds) ≡ code_digits code
unfolding code_digits
code_written ds at m code len le small front e =
    let long : length (map hex_digit (digits_of 16 code)) ≡ 8 - at = ap length (sym e) ∙ length-drop at ds ∙ ap (λ (k : ℕ). k - at) len in
    let zeros : 4 - (8 - at) ≡ at - m = omega arith in
    take_all (8 - m) (drop m ds) (rw length-drop (omega arith))
    ∙ ap (drop m) (sym (take-append-drop at ds))
    ∙ ap (λ (l : List ℕ). drop m (l ++ drop at ds)) front
    ∙ drop-append-le m (replicate at 48) (drop at ds) (rw length-replicate (omega arith))
    ∙ ap (λ (l : List ℕ). l ++ drop at ds) (drop-replicate m at 48)
    ∙ ap (λ (l : List ℕ). replicate (at - m) 48 ++ l) e
    ∙ ap (λ (k : ℕ). replicate k 48 ++ map hex_digit (digits_of 16 code)) (sym zeros ∙ ap (λ (k : ℕ). 4 - k) (sym long))

-- ---- the digits of a code

hex_digit-ascii : (d : ℕ) → d < 16 → hex_digit d < 128
hex_digit-ascii d h = cond_both (nat_lt d 10) (48 + d) (55 + d) (λ x. x < 128) (λ e. omega arith) (λ e. omega arith)

hex_digits-ascii : (ds : List ℕ) → AllBelowBase 16 ds → IsAscii (map hex_digit ds)
hex_digits-ascii [] h i = lit< tt
hex_digits-ascii (d ∷ ds) (h, hs) zero = hex_digit-ascii d h
hex_digits-ascii (d ∷ ds) (h, hs) (suc i) = hex_digits-ascii ds hs i

zeros-ascii : (n : ℕ) → IsAscii (replicate n 48)
zeros-ascii zero i = lit< tt
zeros-ascii (suc n) zero = lit< tt
zeros-ascii (suc n) (suc i) = zeros-ascii n i

pub code_digits-ascii : (c : ℕ) → IsAscii (code_digits c)
unfolding code_digits
code_digits-ascii c =
    IsAscii-append _ _ (zeros-ascii _) (hex_digits-ascii (digits_of 16 c) (all_below_base_digits_of 16 c (omega arith)))
