-- Where bytes stop being text.
use Rattle.std.proofs.Common.{◌≡◌, ℕ, ◌+◌, ◌≤◌, ◌<◌, List, [], ◌∷◌, ◌++◌, length, take, get_or, encode_utf8, encode_utf8_all, inl, inr, ap, sym, ◌∙◌, append-nil, arith}
use Rattle.std.specs.Str.{IsValidUpTo}
use Rattle.std.proofs.lemmas.Bool.{cases_lt}
use Rattle.std.proofs.lemmas.List.{take_more}
use Rattle.std.proofs.lemmas.Str.{encodes-append}
use Rattle.np_code_points.specs.Text.{IsLongestValidPrefix}

-- a prefix past the valid one is not UTF-8
pub longest_valid_prefix : (bytes : List ℕ) (at : ℕ) → IsValidUpTo bytes at → IsLongestValidPrefix bytes at
longest_valid_prefix bytes at h = record {
  within = omega (arith, h.short);
  valid = h.front;
  longest = λ n within valid. elim (cases_lt at n) as (λ _. n ≤ at) [ inl past ↦ absurd (h.longest n past valid) | inr before ↦ before ];
}

-- one more code point
pub encoded_more : (chars bytes : List ℕ) (i x : ℕ) → i < length chars → x ≡ get_or chars i x → bytes ≡ encode_utf8_all (take i chars)
    → bytes ++ encode_utf8 x ≡ encode_utf8_all (take (i + 1) chars)
encoded_more chars bytes i x lt here before =
    let more : take (i + 1) chars ≡ take i chars ++ x ∷ [] =
    take_more chars i x lt ∙ ap (λ (k : ℕ). take i chars ++ k ∷ []) (sym here) in
    ap (λ (l : List ℕ). l ++ encode_utf8 x) before
    ∙ ap (λ (l : List ℕ). encode_utf8_all (take i chars) ++ l) (sym (append-nil (encode_utf8 x)))
    ∙ sym (encodes-append (take i chars) (x ∷ []))
    ∙ ap encode_utf8_all (sym more)
