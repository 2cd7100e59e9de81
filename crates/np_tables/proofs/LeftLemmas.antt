-- What is left of 64 bytes to be looked up, and starters that pass whatever stands before them.
use Rattle.std.proofs.Common.{◌≡◌, ◌≢◌, ℕ, ◌+◌, ◌-◌, ◌<◌, ◌≤◌, ◌^◌, Bool, true, false, cond, List, length, encode_utf8, IsUtf8, drop, take, get_or, get_or-take, bit_and, refl, sym, ap, subst, ◌∙◌, arith, inl, inr}
use Rattle.np_tables.proofs.Words.{AreLeft, AreYes, BeginsWithChar, IsCharBoundary, IsYes, cases_lt, chars_past_char, count_trailing_zeros, get_or-drop, get_or_append_left, is_doubtful, row_of, quick_check_in}
use Rattle.np_tables.specs.declared.scans.Scan.{Scan}
use Rattle.np_tables.proofs.DoubtfulLeadLemmas.{low_byte-safe}
use Rattle.np_tables.proofs.LeadByteLemmas.{lowest_gone, others_kept}
use Rattle.np_tables.proofs.QuickSpanLemmas.{yes_quick_check}
use Rattle.np_tables.proofs.ScanLemmas.{encode_some, inside_low}
use Rattle.std.proofs.lemmas.Nat.Bits.{bit_at-trailing_zeros, bit_at-zero}
use Rattle.std.proofs.lemmas.Bool.{cases_eq}
use Rattle.std.specs.Int.{bit_at}
use mir.Syntax.{w64}

-- a byte in the midst of a character
pub inside_boundary : (text : List ℕ) (k : ℕ) → k < length text → ¬ (IsCharBoundary text k) → get_or text k 0 < 192
inside_boundary text k within inside =
    elim (cases_lt (get_or text k 0) 192) [
      | inl low ↦ low
      | inr high ↦ absurd (inside (omega (arith, within), λ _ _. high))
    ]

module _ (s : Scan) (text : List ℕ) where
  -- what begins with a byte that is not doubtful
  pub safe_yes : s.ascii ≡ true → (k : ℕ) → is_doubtful (row_of s.form s.doubtful.now) (get_or text k 0) ≡ false → AreYes s text k (k + 1)
  safe_yes on at safe k from to c rest scalar e =
      let place : k ≡ at = omega (arith, from, to) in
      let zero : k + 0 ≡ k = omega arith in
      let byte : get_or text at 0 ≡ get_or (encode_utf8 c) 0 0 =
      ap (λ n. get_or text n 0) (sym (zero ∙ place)) ∙ sym (get_or-drop k text 0 0) ∙ ap (λ l. get_or l 0 0) e ∙ get_or_append_left (encode_utf8 c) rest 0 0 (encode_some c) in
      elim (cases_lt c 128) [
        | inl ascii ↦ ap (quick_check_in s.form) (s.ascii_is_yes on c ascii) ∙ yes_quick_check s.form
        | inr several ↦ s.safe c scalar several (sym (ap (is_doubtful (row_of s.form s.doubtful.now)) byte) ∙ safe)
      ]

  -- a character that was read, and is one
  pub read_yes : (at c count : ℕ) → IsUtf8 (drop at text) → BeginsWithChar (drop at text) c count → IsYes s.form s.index.now s.quick_checks.now c → AreYes s text at (at + 1)
  read_yes at c count utf8 begins starter k from to d rest scalar e =
      let place : k ≡ at = omega (arith, from, to) in
      let one = chars_past_char (drop at text) (drop count (drop at text)) c utf8 begins.parts in
      let two = chars_past_char (drop at text) rest d utf8 (ap (λ n. drop n text) (sym place) ∙ e) in
      let same : c ≡ d = ap (λ l. get_or l 0 0) (sym one ∙ two) in
      subst (IsYes s.form s.index.now s.quick_checks.now) same starter

  -- what stands before a character that begins at `from` or behind it
  pub yes_reach : s.ascii ≡ true → (end from to : ℕ) → AreYes s text end from → ((k : ℕ) → end ≤ k → from ≤ k → k < to → get_or text k 0 < 192) → AreYes s text end to
  yes_reach on end from to before inside k ge lt =
      elim (cases_lt k from) [
        | inl less ↦ before k ge less
        | inr more ↦ safe_yes on k (low_byte-safe (row_of s.form s.doubtful.now) (get_or text k 0) (inside k ge more lt)) k (omega arith) (omega arith)
      ]

  -- each doubtful byte has its bit
  pub left-mask : s.ascii ≡ true → (end from mask : ℕ) → AreYes s text end from → ((k : ℕ) → from ≤ k → k < end → get_or text k 0 < 192)
      → ((k : ℕ) → k < 64 → bit_at mask k ≡ cond (is_doubtful (row_of s.form s.doubtful.now) (get_or text (from + k) 0)) 1 0) → AreLeft s text end from mask
  left-mask on end from mask before inside bits =
      let lead : (k : ℕ) → k < 64 → bit_at mask k ≡ 1 → 192 ≤ get_or text (from + k) 0 = λ k lt set. elim (cases_lt (get_or text (from + k) 0) 192) [
        | inl low ↦ absurd (omega (arith, set, bits k lt, ap {B = ℕ} (λ t. cond t 1 0) (low_byte-safe (row_of s.form s.doubtful.now) (get_or text (from + k) 0) low)))
        | inr high ↦ high
      ] in
      record {
        before = before;
        passed = λ k lt clear _. safe_yes on (from + k) (none _ (sym (bits k lt) ∙ clear));
        lead_byte = lead;
        behind = λ k lt set. elim (cases_lt (from + k) end) [
          | inl less ↦ absurd (omega (arith, lead k lt set, inside (from + k) (omega arith) less))
          | inr more ↦ more
        ];
      }
    where
      none : (b : Bool) → ◌≡◌ {A = ℕ} (cond b 1 0) 0 → b ≡ false
      none true e = absurd (omega arith)
      none false e = refl

  -- the same, of bytes that are the text and the row that is looked up
  pub left-lanes : s.ascii ≡ true → (end from mask : ℕ) → AreYes s text end from → ((k : ℕ) → from ≤ k → k < end → get_or text k 0 < 192) → (row bytes : List ℕ) → row ≡ row_of s.form s.doubtful.now → bytes ≡ text → from + 64 ≤ length bytes
      → ((k : ℕ) → k < 64 → bit_at mask k ≡ cond (is_doubtful row (get_or (take (length bytes - from) (drop from bytes)) k 0)) 1 0) → AreLeft s text end from mask
  left-lanes on end from mask before inside row bytes looked_up same long bits =
      left-mask on end from mask before inside
      (λ k lt. bits k lt ∙ ap {B = ℕ} (λ r. cond (is_doubtful r (get_or (take (length bytes - from) (drop from bytes)) k 0)) 1 0) looked_up
      ∙ ap {B = ℕ} (λ b. cond (is_doubtful (row_of s.form s.doubtful.now) b) 1 0)
      (get_or-take (length bytes - from) (drop from bytes) k 0 (omega (arith, long, lt)) ∙ get_or-drop from bytes k 0 ∙ ap (λ l. get_or l (from + k) 0) same))

  -- without the lowest, which is the bit t
  module _ (end from left : ℕ) (are : AreLeft s text end from left) where
    -- what stands before it
    pub yes_before : (t : ℕ) → t < 64 → ((k : ℕ) → k < t → bit_at left k ≡ 0) → AreYes s text end (from + t)
    yes_before t within first k ge lt =
        elim (cases_lt k from) [
          | inl less ↦ are.before k ge less
          | inr more ↦
              let place : from + (k - from) ≡ k = omega (arith, more) in
              are.passed (k - from) (omega (arith, lt, more, within)) (first (k - from) (omega (arith, lt, more))) (omega (arith, ge, place)) k (omega (arith, place)) (omega (arith, place))
        ]

    module _ (some : 0 < left) (small : left < 2 ^ 64) (t : ℕ) (within : t < 64) (set : bit_at left t ≡ 1) (first : (k : ℕ) → k < t → bit_at left k ≡ 0) where
      abbrev later : ℕ
      later = bit_and left (left - 1)

      is : t ≡ count_trailing_zeros 64 left
      is =
          let lowest = bit_at-trailing_zeros w64 left some small in
          elim (cases_lt t (count_trailing_zeros 64 left)) [
            | inl less ↦ absurd (omega (arith, set, lowest.2 t less))
            | inr more ↦ elim (cases_lt (count_trailing_zeros 64 left) t) [ inl less ↦ absurd (omega (arith, lowest.1, first (count_trailing_zeros 64 left) less)) | inr same ↦ omega (arith, more, same) ]
          ]

      kept : (k : ℕ) → k ≢ t → bit_at later k ≡ bit_at left k
      kept k other = others_kept left some small k (λ e. other (e ∙ sym is))

      -- what is still set stands behind it, and was set
      set_before : (k : ℕ) → bit_at later k ≡ 1 → (bit_at left k ≡ 1) × (t < k)
      set_before k on =
          elim (cases_eq k t) [
            | inl same ↦ absurd (omega (arith, on, ap (bit_at later) (same ∙ is), lowest_gone left some small))
            | inr other ↦
                let was : bit_at left k ≡ 1 = sym (kept k other) ∙ on in
                elim (cases_lt k t) [
                  | inl less ↦ absurd (omega (arith, was, first k less))
                  | inr more ↦ (was, omega (arith, more, other))
                ]
          ]

      -- it is a starter that passes
      pub left-yes : AreYes s text (from + t) (from + t + 1) → AreLeft s text end from later
      left-yes starter =
          record {
            before = are.before;
            passed = λ k lt clear behind. elim (cases_eq k t) [
              | inl same ↦ subst (λ n. AreYes s text (from + n) (from + n + 1)) (sym same) starter
              | inr other ↦ are.passed k lt (sym (kept k other) ∙ clear) behind
            ];
            lead_byte = λ k lt on. are.lead_byte k lt (set_before k on).0;
            behind = λ k lt on. are.behind k lt (set_before k on).0;
          }

      -- it was passed, and so many bytes
      pub left-past : (c count : ℕ) → BeginsWithChar (drop (from + t) text) c count → AreLeft s text (from + t + count) from later
      left-past c count begins =
          let here = are.behind t within set in
          record {
            before = λ k ge lt. absurd (omega (arith, ge, lt));
            passed = λ k lt clear behind.
                (let other : k ≢ t = λ same. omega (arith, behind, same, begins.some) in
                are.passed k lt (sym (kept k other) ∙ clear) (omega (arith, behind, here)));
            lead_byte = λ k lt on. are.lead_byte k lt (set_before k on).0;
            behind = λ k lt on. elim (cases_lt (from + k) (from + t + count)) [
              | inl less ↦
                  let before = set_before k on in
                  let place : from + t + (k - t) ≡ from + k = omega (arith, before.1) in
                  absurd (omega (arith, are.lead_byte k lt before.0, inside_low (drop (from + t) text) c count begins (k - t) (omega (arith, before.1)) (omega (arith, less)), get_or-drop (from + t) text (k - t) 0, ap (λ n. get_or text n 0) place))
              | inr more ↦ more
            ];
          }

  -- what begins behind a place, from there
  pub yes_moved : (at : ℕ) → AreYes s (drop at text) 0 1 → AreYes s text at (at + 1)
  yes_moved at starter k from to c rest scalar e =
      let place : k ≡ at = omega (arith, from, to) in
      starter 0 (omega arith) (omega arith) c rest scalar (ap (λ n. drop n text) (sym place) ∙ e)

  -- nothing is left
  pub left-none : (end from : ℕ) → AreLeft s text end from 0 → AreYes s text end (from + 64)
  left-none end from are k ge lt =
      elim (cases_lt k from) [
        | inl less ↦ are.before k ge less
        | inr more ↦
            let place : from + (k - from) ≡ k = omega (arith, more) in
            are.passed (k - from) (omega (arith, lt, more)) (bit_at-zero (k - from)) (omega (arith, ge, place)) k (omega (arith, place)) (omega (arith, place))
      ]
