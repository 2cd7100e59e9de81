-- Characters where they stand in a text, and their bytes.
use Rattle.std.proofs.Common.{◌≡◌, ℕ, ◌+◌, ◌-◌, ◌*◌, ◌/◌, ◌%◌, ◌<◌, ◌≤◌, List, [], ◌∷◌, ◌++◌, append_assoc, drop, get_or, length, length-append, map, slice_set, take, arith, encode_utf8, IsUtf8, refl, sym, ap, ap₂, subst, ◌∙◌, inl, inr}
use Rattle.std.proofs.lemmas.List.{drop-drop, drop_more, drop-set-lt, get_or-drop, length-drop, length-set, take_more_set}
use Rattle.std.proofs.lemmas.Str.Ascii.{lowercase_is}
use Rattle.std.specs.Char.{to_ascii_lowercase}
use Rattle.np_versions.proofs.Words.{cases_lt}
use Rattle.np_versions.proofs.Utf8Lemmas.{BeginsWith, begins_with_three, begins_with_two, encode_four, encode_one, encode_three, encode_two}
use Rattle.np_caseless.specs.inside.SimpleImages.{IsCodeAt}

-- three bytes of one number
pub unpacked : (x y z n : ℕ) → x < 256 → y < 256 → z < 256 → n ≡ 0x1000000 + x + 256 * y + 65536 * z
    → n % 256 ∷ n / 256 % 256 ∷ n / 65536 % 256 ∷ [] ≡ x ∷ y ∷ z ∷ []
unpacked x y z n first second third is =
    let one : n % 256 ≡ x = omega (arith, is, first, second, third) in
    let two : n / 256 % 256 ≡ y = omega (arith, is, first, second, third) in
    let three : n / 65536 % 256 ≡ z = omega (arith, is, first, second, third) in
    ap₂ (λ a l. a ∷ l) one (ap₂ (λ a l. a ∷ l) two (ap (λ a. a ∷ []) three))

-- what begins with a character of so many bytes behind a place
from_begins : (bytes : List ℕ) (at count code : ℕ) → 0 < count → BeginsWith (drop at bytes) count code → IsCodeAt bytes at count code
from_begins bytes at count code some h =
    let left = length-drop at bytes in
    record {
      begins = h.parts ∙ ap (λ l. encode_utf8 code ++ l) (drop-drop count at bytes);
      long = omega (arith, some, h.long, left);
      size = omega (arith, h.long, ap length h.parts, length-append (encode_utf8 code) (drop count (drop at bytes)), length-drop count (drop at bytes));
    }

-- the bytes of a character, from those of its text
module _ (bytes : List ℕ) (at count code : ℕ) (here : IsCodeAt bytes at count code) where
  abbrev rest : List ℕ
  rest = drop (at + count) bytes

  read_byte : (i : ℕ) (encoded : List ℕ) → encode_utf8 code ≡ encoded → get_or bytes (at + i) 0 ≡ get_or (encoded ++ rest) i 0
  read_byte i encoded is = sym (get_or-drop at bytes i 0) ∙ ap (λ l. get_or l i 0) (here.begins ∙ ap (λ l. l ++ rest) is)

  first_byte : (encoded : List ℕ) → encode_utf8 code ≡ encoded → get_or bytes at 0 ≡ get_or (encoded ++ rest) 0 0
  first_byte encoded is = ap (λ n. get_or bytes n 0) (omega arith) ∙ read_byte 0 encoded is

  sized : (encoded : List ℕ) → encode_utf8 code ≡ encoded → length encoded ≡ count
  sized encoded is = sym (ap length is) ∙ here.size

  pub two_are : count ≡ 2 → get_or bytes at 0 * 64 + get_or bytes (at + 1) 0 ≡ code + 0x3080
  two_are two =
      elim (cases_lt code 0x80) [
        | inl one ↦ absurd (omega (arith, two, sized (code ∷ []) (encode_one code one)))
        | inr some ↦
            elim (cases_lt code 0x800) [
              | inl few ↦
                  let is = encode_two code some few in
                  let b0 : get_or bytes at 0 ≡ 192 + code / 64 = first_byte ((192 + code / 64) ∷ (128 + code % 64) ∷ []) is in
                  let b1 : get_or bytes (at + 1) 0 ≡ 128 + code % 64 = read_byte 1 ((192 + code / 64) ∷ (128 + code % 64) ∷ []) is in
                  omega (arith, b0, b1)
              | inr many ↦
                  elim (cases_lt code 0x10000) [
                    | inl three ↦ absurd (omega (
                      arith,
                      two,
                      sized ((224 + code / 4096) ∷ (128 + code / 64 % 64) ∷ (128 + code % 64) ∷ []) (encode_three code many three),
                    ))
                    | inr four ↦ absurd (omega (
                      arith,
                      two,
                      sized ((240 + code / 262144) ∷ (128 + code / 4096 % 64) ∷ (128 + code / 64 % 64) ∷ (128 + code % 64) ∷ []) (encode_four code four),
                    ))
                  ]
            ]
      ]

  pub three_are : count ≡ 3 → get_or bytes at 0 * 4096 + get_or bytes (at + 1) 0 * 64 + get_or bytes (at + 2) 0 ≡ code + 0xE2080
  three_are three =
      elim (cases_lt code 0x80) [
        | inl one ↦ absurd (omega (arith, three, sized (code ∷ []) (encode_one code one)))
        | inr some ↦
            elim (cases_lt code 0x800) [
              | inl few ↦ absurd (omega (arith, three, sized ((192 + code / 64) ∷ (128 + code % 64) ∷ []) (encode_two code some few)))
              | inr many ↦
                  elim (cases_lt code 0x10000) [
                    | inl fits ↦
                        let encoded = (224 + code / 4096) ∷ (128 + code / 64 % 64) ∷ (128 + code % 64) ∷ [] in
                        let is = encode_three code many fits in
                        let b0 : get_or bytes at 0 ≡ 224 + code / 4096 = first_byte encoded is in
                        let b1 : get_or bytes (at + 1) 0 ≡ 128 + code / 64 % 64 = read_byte 1 encoded is in
                        let b2 : get_or bytes (at + 2) 0 ≡ 128 + code % 64 = read_byte 2 encoded is in
                        omega (arith, b0, b1, b2)
                    | inr four ↦ absurd (omega (
                      arith,
                      three,
                      sized ((240 + code / 262144) ∷ (128 + code / 4096 % 64) ∷ (128 + code / 64 % 64) ∷ (128 + code % 64) ∷ []) (encode_four code four),
                    ))
                  ]
            ]
      ]

high_stays : (b : ℕ) → 128 ≤ b → to_ascii_lowercase b ≡ b
high_stays b above = (lowercase_is b).2 (omega (arith, above))

module _ (bytes : List ℕ) (at : ℕ) (utf8 : IsUtf8 (drop at bytes)) where
  abbrev byte : ℕ → ℕ
  byte i = get_or bytes (at + i) 0

  there : (i : ℕ) → get_or (drop at bytes) i 0 ≡ byte i
  there i = get_or-drop at bytes i 0

  first_there : get_or (drop at bytes) 0 0 ≡ get_or bytes at 0
  first_there = there 0 ∙ ap (λ n. get_or bytes n 0) (omega arith)

  pub one_at : at < length bytes → get_or bytes at 0 < 0x80 → IsCodeAt bytes at 1 (get_or bytes at 0)
  one_at within low =
      let encoded = encode_one (get_or bytes at 0) low in
      record {
        begins = drop_more bytes at 0 within ∙ ap (λ l. l ++ drop (at + 1) bytes) (sym encoded);
        long = omega (arith, within);
        size = ap length encoded;
      }

  module _ (lead : get_or bytes at 0 / 32 ≡ 6) where
    abbrev code_of_two : ℕ
    code_of_two = get_or bytes at 0 % 32 * 64 + byte 1 % 64

    two_there : IsCodeAt bytes at 2 code_of_two
    two_there =
        let front = first_there in
        let begins = begins_with_two (drop at bytes) utf8 (omega (arith, front, lead)) in
        from_begins bytes at 2 code_of_two (omega arith) (subst (BeginsWith (drop at bytes) 2) (omega (arith, front, there 1)) begins)

    pub two_long : at + 1 < length bytes
    two_long = omega (arith, two_there.long)

    module _ (x y : ℕ) (first : x ≡ get_or bytes at 0) (second : y ≡ get_or bytes (at + 1) 0) where
      pub two_fit : 0x3080 ≤ x * 64 + y
      two_fit = omega (arith, first, second, two_are bytes at 2 code_of_two two_there refl)

      pub two_at : IsCodeAt bytes at 2 (x * 64 + y - 0x3080)
      two_at = subst (IsCodeAt bytes at 2) (omega (arith, first, second, two_are bytes at 2 code_of_two two_there refl)) two_there

  module _ (lead : get_or bytes at 0 / 16 ≡ 14) where
    abbrev code_of_three : ℕ
    code_of_three = get_or bytes at 0 % 16 * 4096 + byte 1 % 64 * 64 + byte 2 % 64

    three_there : IsCodeAt bytes at 3 code_of_three
    three_there =
        let front = first_there in
        let begins = begins_with_three (drop at bytes) utf8 (omega (arith, front, lead)) in
        from_begins bytes at 3 code_of_three (omega arith) (subst (BeginsWith (drop at bytes) 3) (omega (arith, front, there 1, there 2)) begins)

    pub three_long : at + 2 < length bytes
    three_long = omega (arith, three_there.long)

    module _ (x y z : ℕ) (first : x ≡ get_or bytes at 0) (second : y ≡ get_or bytes (at + 1) 0) (third : z ≡ get_or bytes (at + 2) 0) where
      pub three_fit : 0xE2080 ≤ x * 4096 + y * 64 + z
      three_fit = omega (arith, first, second, third, three_are bytes at 3 code_of_three three_there refl)

      pub three_at : IsCodeAt bytes at 3 (x * 4096 + y * 64 + z - 0xE2080)
      three_at =
          subst (IsCodeAt bytes at 3) (omega (arith, first, second, third, three_are bytes at 3 code_of_three three_there refl)) three_there

-- bytes that are written one behind the other
module _ (room : List ℕ) (at x y z : ℕ) where
  pub fits_two : at + 2 ≤ length room → at + 1 < length (slice_set room at x)
  fits_two fits = omega (arith, fits, length-set room at x)

  pub fits_three : at + 3 ≤ length room → at + 2 < length (slice_set (slice_set room at x) (at + 1) y)
  fits_three fits = omega (arith, fits, length-set room at x, length-set (slice_set room at x) (at + 1) y)

  pub put_one : at + 1 ≤ length room → take (at + 1) (slice_set room at x) ≡ take at room ++ x ∷ []
  put_one fits = take_more_set room at x (omega (arith, fits))

  pub put_two : at + 2 ≤ length room → take (at + 2) (slice_set (slice_set room at x) (at + 1) y) ≡ take at room ++ x ∷ y ∷ []
  put_two fits =
      let one = slice_set room at x in
      let next : at + 2 ≡ at + 1 + 1 = omega arith in
      ap (λ n. take n (slice_set one (at + 1) y)) next
      ∙ take_more_set one (at + 1) y (omega (arith, fits, length-set room at x))
      ∙ ap (λ l. l ++ y ∷ []) (put_one (omega (arith, fits)))
      ∙ append_assoc (take at room) (x ∷ []) (y ∷ [])

  pub put_three : at + 3 ≤ length room
      → take (at + 3) (slice_set (slice_set (slice_set room at x) (at + 1) y) (at + 2) z) ≡ take at room ++ x ∷ y ∷ z ∷ []
  put_three fits =
      let two = slice_set (slice_set room at x) (at + 1) y in
      let next : at + 3 ≡ at + 2 + 1 = omega arith in
      ap (λ n. take n (slice_set two (at + 2) z)) next
      ∙ take_more_set two (at + 2) z (omega (arith, fits, length-set room at x, length-set (slice_set room at x) (at + 1) y))
      ∙ ap (λ l. l ++ z ∷ []) (put_two (omega (arith, fits)))
      ∙ append_assoc (take at room) (x ∷ y ∷ []) (z ∷ [])

  pub behind_one : drop (at + 1) (slice_set room at x) ≡ drop (at + 1) room
  behind_one = drop-set-lt (at + 1) room at x (omega arith)

  pub behind_two : drop (at + 2) (slice_set (slice_set room at x) (at + 1) y) ≡ drop (at + 2) room
  behind_two = drop-set-lt (at + 2) (slice_set room at x) (at + 1) y (omega arith) ∙ drop-set-lt (at + 2) room at x (omega arith)

  pub behind_three : drop (at + 3) (slice_set (slice_set (slice_set room at x) (at + 1) y) (at + 2) z) ≡ drop (at + 3) room
  behind_three =
      let two = slice_set (slice_set room at x) (at + 1) y in
      drop-set-lt (at + 3) two (at + 2) z (omega arith)
      ∙ drop-set-lt (at + 3) (slice_set room at x) (at + 1) y (omega arith)
      ∙ drop-set-lt (at + 3) room at x (omega arith)

-- ---- how many bytes a character has

by_bytes : (c : ℕ) → (P : Type 0)
    → (c < 0x80 → encode_utf8 c ≡ c ∷ [] → P)
    → ((x y : ℕ) → 128 ≤ x → 128 ≤ y → 0x80 ≤ c → encode_utf8 c ≡ x ∷ y ∷ [] → P)
    → ((x y z : ℕ) → 128 ≤ x → 128 ≤ y → 128 ≤ z → 0x80 ≤ c → encode_utf8 c ≡ x ∷ y ∷ z ∷ [] → P)
    → ((x y z w : ℕ) → 128 ≤ x → 128 ≤ y → 128 ≤ z → 128 ≤ w → 0x10000 ≤ c → encode_utf8 c ≡ x ∷ y ∷ z ∷ w ∷ [] → P)
    → P
by_bytes c P one two three four =
    elim (cases_lt c 0x80) [
      | inl single ↦ one single (encode_one c single)
      | inr some ↦
          elim (cases_lt c 0x800) [
            | inl few ↦ two (192 + c / 64) (128 + c % 64) (omega arith) (omega arith) some (encode_two c some few)
            | inr many ↦
                elim (cases_lt c 0x10000) [
                  | inl fits ↦
                      three (224 + c / 4096) (128 + c / 64 % 64) (128 + c % 64) (omega arith) (omega arith) (omega arith) some (encode_three c many fits)
                  | inr most ↦
                      four (240 + c / 262144) (128 + c / 4096 % 64) (128 + c / 64 % 64) (128 + c % 64) (omega arith) (omega arith) (omega arith) (omega arith)
                      most (encode_four c most)
                ]
          ]
    ]

-- the bytes of one beyond ASCII are beyond ASCII
pub lower_encoded : (c : ℕ) → 128 ≤ c → map to_ascii_lowercase (encode_utf8 c) ≡ encode_utf8 c
lower_encoded c high =
    let same : (b : ℕ) → 128 ≤ b → to_ascii_lowercase b ≡ b = λ b above. high_stays b above in
    by_bytes c (map to_ascii_lowercase (encode_utf8 c) ≡ encode_utf8 c)
    (λ low e. absurd (omega (arith, low, high)))
    (λ x y a b _ e. ap (map to_ascii_lowercase) e ∙ ap₂ (λ p q. p ∷ q ∷ []) (same x a) (same y b) ∙ sym e)
    (λ x y z a b d _ e.
    ap (map to_ascii_lowercase) e ∙ ap₂ (λ p l. p ∷ l) (same x a) (ap₂ (λ p q. p ∷ q ∷ []) (same y b) (same z d)) ∙ sym e)
    (λ x y z w a b d f _ e.
    ap (map to_ascii_lowercase) e
    ∙ ap₂ (λ p l. p ∷ l) (same x a) (ap₂ (λ p l. p ∷ l) (same y b) (ap₂ (λ p q. p ∷ q ∷ []) (same z d) (same w f)))
    ∙ sym e)

pub encoded_few : (c : ℕ) → c < 0x10000 → length (encode_utf8 c) ≤ 3
encoded_few c low =
    by_bytes c (length (encode_utf8 c) ≤ 3)
    (λ _ e. omega (arith, ap length e))
    (λ x y _ _ _ e. omega (arith, ap length e))
    (λ x y z _ _ _ _ e. omega (arith, ap length e))
    (λ x y z w _ _ _ _ most e. absurd (omega (arith, most, low)))

-- one that has several is beyond ASCII
pub several_high : (c : ℕ) → 1 < length (encode_utf8 c) → 128 ≤ c
several_high c more =
    by_bytes c (128 ≤ c)
    (λ _ e. absurd (omega (arith, more, ap length e)))
    (λ x y _ _ high e. high)
    (λ x y z _ _ _ high e. high)
    (λ x y z w _ _ _ _ most e. omega (arith, most))

-- one whose first byte is beyond ASCII has several
pub several_bytes : (bytes : List ℕ) (at count code : ℕ) → IsCodeAt bytes at count code → 128 ≤ get_or bytes at 0 → 1 < count
several_bytes bytes at count code here high =
    let size : (l : List ℕ) → encode_utf8 code ≡ l → length l ≡ count = λ l e. sym (ap length e) ∙ here.size in
    by_bytes code (1 < count)
    (λ low e. absurd (omega (arith, high, low, first_byte bytes at count code here (code ∷ []) e)))
    (λ x y _ _ _ e. omega (arith, size (x ∷ y ∷ []) e))
    (λ x y z _ _ _ _ e. omega (arith, size (x ∷ y ∷ z ∷ []) e))
    (λ x y z w _ _ _ _ _ e. omega (arith, size (x ∷ y ∷ z ∷ w ∷ []) e))

pub encoded_two : (c : ℕ) → length (encode_utf8 c) ≤ 2 → c < 0x800
encoded_two c few =
    elim (cases_lt c 0x800) [
      | inl low ↦ low
      | inr many ↦
          elim (cases_lt c 0x10000) [
            | inl fits ↦ absurd (omega (arith, few, ap length (encode_three c many fits)))
            | inr most ↦ absurd (omega (arith, few, ap length (encode_four c most)))
          ]
    ]

-- no byte of one but its first begins a character
module _ (bytes : List ℕ) (at count code : ℕ) (here : IsCodeAt bytes at count code) where
  later_low : (j : ℕ) → 1 ≤ j → j < count → get_or bytes (at + j) 0 < 192
  later_low j some less =
      elim (cases_lt code 0x80) [
        | inl one ↦ absurd (omega (arith, some, less, sized bytes at count code here (code ∷ []) (encode_one code one)))
        | inr several ↦
            elim (cases_lt code 0x800) [
              | inl few ↦ two (encode_two code several few)
              | inr many ↦
                  elim (cases_lt code 0x10000) [
                    | inl fits ↦ three (encode_three code many fits)
                    | inr most ↦ four (encode_four code most)
                  ]
            ]
      ]
    where
      back : List ℕ
      back = drop (at + count) bytes

      last : (n : ℕ) → 128 + n % 64 < 192
      last n = omega arith

      two : encode_utf8 code ≡ (192 + code / 64) ∷ (128 + code % 64) ∷ [] → get_or bytes (at + j) 0 < 192
      two e =
          let encoded = (192 + code / 64) ∷ (128 + code % 64) ∷ [] in
          let place : j ≡ 1 = omega (arith, some, less, sized bytes at count code here encoded e) in
          omega (arith, read_byte bytes at count code here j encoded e, ap (λ n. get_or (encoded ++ back) n 0) place, last code)

      three : encode_utf8 code ≡ (224 + code / 4096) ∷ (128 + code / 64 % 64) ∷ (128 + code % 64) ∷ [] → get_or bytes (at + j) 0 < 192
      three e =
          let encoded = (224 + code / 4096) ∷ (128 + code / 64 % 64) ∷ (128 + code % 64) ∷ [] in
          let size = sized bytes at count code here encoded e in
          let read = read_byte bytes at count code here j encoded e in
          elim (cases_lt j 2) [
            | inl first ↦ let place : j ≡ 1 = omega (arith, some, first) in
                omega (arith, read, ap (λ n. get_or (encoded ++ back) n 0) place, last (code / 64))
            | inr later ↦ let place : j ≡ 2 = omega (arith, later, less, size) in
                omega (arith, read, ap (λ n. get_or (encoded ++ back) n 0) place, last code)
          ]

      four : encode_utf8 code ≡ (240 + code / 262144) ∷ (128 + code / 4096 % 64) ∷ (128 + code / 64 % 64) ∷ (128 + code % 64) ∷ []
          → get_or bytes (at + j) 0 < 192
      four e =
          let encoded = (240 + code / 262144) ∷ (128 + code / 4096 % 64) ∷ (128 + code / 64 % 64) ∷ (128 + code % 64) ∷ [] in
          let size = sized bytes at count code here encoded e in
          let read = read_byte bytes at count code here j encoded e in
          elim (cases_lt j 2) [
            | inl first ↦ let place : j ≡ 1 = omega (arith, some, first) in
                omega (arith, read, ap (λ n. get_or (encoded ++ back) n 0) place, last (code / 4096))
            | inr more ↦
                elim (cases_lt j 3) [
                  | inl second ↦ let place : j ≡ 2 = omega (arith, more, second) in
                      omega (arith, read, ap (λ n. get_or (encoded ++ back) n 0) place, last (code / 64))
                  | inr later ↦ let place : j ≡ 3 = omega (arith, later, less, size) in
                      omega (arith, read, ap (λ n. get_or (encoded ++ back) n 0) place, last code)
                ]
          ]

  pub inside_low : (j : ℕ) → at < j → j < at + count → get_or bytes j 0 < 192
  inside_low j more less =
      let place : at + (j - at) ≡ j = omega (arith, more) in
      subst (λ n. get_or bytes n 0 < 192) place (later_low (j - at) (omega (arith, more)) (omega (arith, less, more)))
