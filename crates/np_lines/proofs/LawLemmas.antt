-- A line has one answer, and no answer has the byte that ends lines.
use Rattle.std.proofs.Common.{◌≡◌, ◌≢◌, ◌⊎◌, ℕ, ◌+◌, ◌<◌, ◌≤◌, ◌%◌, ◌^◌, Bool, true, false, eqb, leb, nat_lt, List, [], ◌∷◌, ◌++◌, length, take_all, chars, codes, encode_utf8_all, IsUtf8, refl, sym, ap, subst, ◌∙◌, inl, inr, append-nil, length-append, arith}
use Rattle.std.proofs.lemmas.Bool.{and_from, and_parts, both_ways, cases_eq, cases_lt, cond_both, eqb-false, eqb-true, leb-true}
use Rattle.std.proofs.lemmas.Fmt.{decimal_by_steps}
use Rattle.std.proofs.lemmas.List.Elements.{All-nil, All-cons, All-head, All-tail, All-append, All-map, All-replicate, All-weaker}
use Rattle.std.proofs.lemmas.Str.{encodes-append, encodes-chars}
use Rattle.std.specs.Fmt.{decimal}
use Rattle.std.specs.Int.Digits.{digits_of}
use Rattle.std.specs.List.{All, AllZip, list_all}
use Rattle.std.specs.Str.Lossy.{utf8_valid_len}
use Rattle.np_code_points.specs.Codes.{code_digits, hex_digit, unassigned}
use Rattle.np_code_points.specs.Lines.{HasNo}
use Rattle.np_code_points.specs.One.{HasOne}
use Rattle.np_code_points.proofs.LineGrammar.{not_byte}
use Rattle.np_forms.specs.Assigned.{IsAssigned, IsFirstUnassigned}
use Rattle.np_forms.specs.Forms.{IsNormalForm}
use Rattle.np_forms.specs.inside.NormalForms.{normal_form}
use Rattle.np_forms.proofs.FormLemmas.{IsNormalForm-normal_form, normal_form_is}
use Rattle.np_forms.proofs.RunTextLemmas.{longest_prefix, one_prefix}
use Rattle.np_forms.proofs.TextLemmas.{lacks-unassigned}
use Rattle.np_versions.specs.Versions.{VersionData, is_assigned}
use Rattle.np_lines.specs.Answers.{IsAnswerBy, IsAnswerWithinBy, IsKeyBy, IsToldKey, IsUnassigned, most_bytes, not_utf8, told_key, told_refusal}
use Rattle.np_lines.specs.Laws.{AnswersAreLines, OneAnswer}
use Rattle.np_lines.specs.Lines.{LineEnd, Lf, Nul, AreLines, byte_of, ended}

-- ---- one answer

-- a byte is among these, or not
no_step : (byte x : ℕ) (xs : List ℕ) (t : Bool) → eqb x byte ≡ t → HasNo byte xs ⊎ (¬ HasNo byte xs) → HasNo byte (x ∷ xs) ⊎ (¬ HasNo byte (x ∷ xs))
no_step byte x xs true e more = inr (λ free. All-head (not_byte byte) x xs free (eqb-true x byte e))
no_step byte x xs false e (inl free) = inl (All-cons (not_byte byte) x xs (eqb-false x byte e) free)
no_step byte x xs false e (inr some) = inr (λ free. some (All-tail (not_byte byte) x xs free))

has_no_or : (byte : ℕ) (xs : List ℕ) → HasNo byte xs ⊎ (¬ HasNo byte xs)
has_no_or byte [] = inl (All-nil (not_byte byte))
has_no_or byte (x ∷ xs) = no_step byte x xs (eqb x byte) refl (has_no_or byte xs)

told_in : (end : LineEnd) (key : List ℕ) → HasNo (byte_of end) key ⊎ (¬ HasNo (byte_of end) key) → HasOne (IsToldKey end key)
told_in end key (inl free) = (told_key key, inl (free, refl), λ answer h. elim h as (λ _. answer ≡ told_key key) [ inl is ↦ is.1 | inr other ↦ absurd (other.0 free) ])
told_in end key (inr some) =
    let why = told_refusal (codes "line end in key") in
    (why, inr (some, refl), λ answer h. elim h as (λ _. answer ≡ why) [ inl other ↦ absurd (some other.0) | inr is ↦ is.1 ])

one_told_key : (end : LineEnd) (key : List ℕ) → HasOne (IsToldKey end key)
one_told_key end key = told_in end key (has_no_or (byte_of end) key)

-- bytes are UTF-8, or not
utf8_or : (bytes : List ℕ) → IsUtf8 bytes ⊎ (¬ IsUtf8 bytes)
utf8_or bytes =
    let longest = longest_prefix bytes in
    elim (cases_eq (utf8_valid_len bytes) (length bytes)) as (λ _. IsUtf8 bytes ⊎ (¬ IsUtf8 bytes)) [
      | inl all ↦ inl (subst IsUtf8 (take_all (utf8_valid_len bytes) bytes (omega arith)) longest.valid)
      | inr part ↦
          inr (λ utf8.
          let most = longest.longest (length bytes) (omega arith) (subst IsUtf8 (sym (take_all (length bytes) bytes (omega arith))) utf8) in
          let within = longest.within in
          part (omega arith))
    ]

-- a first code point that is not assigned, or none
unassigned_step : (v : VersionData) (x : ℕ) (xs : List ℕ) (t : Bool) → is_assigned v x ≡ t → IsAssigned v xs ⊎ ((at : ℕ) × (code : ℕ) × IsFirstUnassigned v xs at code)
    → IsAssigned v (x ∷ xs) ⊎ ((at : ℕ) × (code : ℕ) × IsFirstUnassigned v (x ∷ xs) at code)
unassigned_step v x xs false e more = inr (0, x, record { before = []; after = xs; split = refl; assigned = refl; lacks = e; place = refl })
unassigned_step v x xs true e (inl all) = inl (and_from (is_assigned v x) (list_all (is_assigned v) xs) e all)
unassigned_step v x xs true e (inr (at, code, first)) =
    inr (
      length (encode_utf8_all (x ∷ first.before)),
      code,
      record {
        before = x ∷ first.before;
        after = first.after;
        split = ap (λ l. x ∷ l) first.split;
        assigned = and_from (is_assigned v x) (list_all (is_assigned v) first.before) e first.assigned;
        lacks = first.lacks;
        place = refl;
      },
    )

unassigned_or : (v : VersionData) (xs : List ℕ) → IsAssigned v xs ⊎ ((at : ℕ) × (code : ℕ) × IsFirstUnassigned v xs at code)
unassigned_or v [] = inl refl
unassigned_or v (x ∷ xs) = unassigned_step v x xs (is_assigned v x) refl (unassigned_or v xs)

-- one first one
same_split : (v : VersionData) (before other after behind : List ℕ) (code place : ℕ) → IsAssigned v before → IsAssigned v other → is_assigned v code ≡ false → is_assigned v place ≡ false
    → before ++ code ∷ after ≡ other ++ place ∷ behind → (other ≡ before) × (place ≡ code)
same_split v [] [] after behind code place a b lacks lack e = let same : place ≡ code = cc in (refl, same)
same_split v [] (y ∷ ys) after behind code place a b lacks lack e =
    let same : y ≡ code = cc in
    absurd (both_ways (is_assigned v y) (ap (is_assigned v) same ∙ lacks) (and_parts (is_assigned v y) (list_all (is_assigned v) ys) b).0)
same_split v (x ∷ xs) [] after behind code place a b lacks lack e =
    let same : x ≡ place = cc in
    absurd (both_ways (is_assigned v x) (ap (is_assigned v) same ∙ lack) (and_parts (is_assigned v x) (list_all (is_assigned v) xs) a).0)
same_split v (x ∷ xs) (y ∷ ys) after behind code place a b lacks lack e =
    let rest : xs ++ code ∷ after ≡ ys ++ place ∷ behind = cc in
    let first : y ≡ x = cc in
    let more =
    same_split v xs ys after behind code place (and_parts (is_assigned v x) (list_all (is_assigned v) xs) a).1 (and_parts (is_assigned v y) (list_all (is_assigned v) ys) b).1 lacks lack rest in
    let tail = more.0 in
    let whole : y ∷ ys ≡ x ∷ xs = cc in
    (whole, more.1)

one_first : (v : VersionData) (xs : List ℕ) (at code place other : ℕ) → IsFirstUnassigned v xs at code → IsFirstUnassigned v xs place other → (place ≡ at) × (other ≡ code)
one_first v xs at code place other f h =
    let same = same_split v f.before h.before f.after h.after code other f.assigned h.assigned f.lacks h.lacks (sym f.split ∙ h.split) in
    (h.place ∙ ap (λ l. length (encode_utf8_all l)) same.0 ∙ sym f.place, same.1)

-- one key
module _ (IsKeyOf : List ℕ → List ℕ → Type 0) (v : VersionData) (end : LineEnd) (line : List ℕ) (one : HasOne (IsKeyOf (chars line))) where
  key_of : List ℕ
  key_of = encode_utf8_all one.0

  one_key : (key : List ℕ) → IsKeyBy IsKeyOf v line key → key ≡ key_of
  unfolding key_of
  one_key key k = k.key_is ∙ ap encode_utf8_all (one.2 k.list k.is)

  is_key : IsUtf8 line → IsAssigned v (chars line) → IsKeyBy IsKeyOf v line key_of
  unfolding key_of
  is_key valid all = record {
    valid = valid;
    assigned = all;
    list = one.0;
    is = one.1;
    key_is = refl;
  }

  -- the answer to each kind of line
  to_text : ¬ IsUtf8 line → HasOne (IsAnswerWithinBy IsKeyOf v end line)
  to_text invalid =
      let at = utf8_valid_len line in
      let answer = told_refusal (not_utf8 at) in (
        answer,
        inl (at, record { invalid = invalid; longest = longest_prefix line }, refl),
        λ other h. elim h as (λ _. other ≡ answer) [
          | inl (place, no_text, is) ↦ is ∙ ap (λ n. told_refusal (not_utf8 n)) (sym (one_prefix line place no_text.longest))
          | inr (inl (place, code, lacks, is)) ↦ absurd (invalid lacks.valid)
          | inr (inr (key, is, told)) ↦ absurd (invalid is.valid)
        ],
      )

  to_unassigned : IsUtf8 line → (at code : ℕ) → IsFirstUnassigned v (chars line) at code → HasOne (IsAnswerWithinBy IsKeyOf v end line)
  to_unassigned valid at code first =
      let answer = told_refusal (unassigned at code) in (
        answer,
        inr (inl (at, code, record { valid = valid; first = first }, refl)),
        λ other h. elim h as (λ _. other ≡ answer) [
          | inl (place, no_text, is) ↦ absurd (no_text.invalid valid)
          | inr (inl (place, point, lacks, is)) ↦
              let same = one_first v (chars line) at code place point first lacks.first in
              is ∙ ap (λ n. told_refusal (unassigned n point)) same.0 ∙ ap (λ n. told_refusal (unassigned at n)) same.1
          | inr (inr (key, is, told)) ↦ absurd (lacks-unassigned v (chars line) at code first is.assigned)
        ],
      )

  to_key : IsUtf8 line → IsAssigned v (chars line) → HasOne (IsAnswerWithinBy IsKeyOf v end line)
  to_key valid all =
      let told = one_told_key end key_of in (
        told.0,
        inr (inr (key_of, is_key valid all, told.1)),
        λ other h. elim h as (λ _. other ≡ told.0) [
          | inl (place, no_text, is) ↦ absurd (no_text.invalid valid)
          | inr (inl (place, code, lacks, is)) ↦ absurd (lacks-unassigned v (chars line) place code lacks.first all)
          | inr (inr (key, is, answer)) ↦ told.2 other (subst (λ k. IsToldKey end k other) (one_key key is) answer)
        ],
      )

  one_within : HasOne (IsAnswerWithinBy IsKeyOf v end line)
  one_within = elim (utf8_or line) as (λ _. HasOne (IsAnswerWithinBy IsKeyOf v end line)) [
    | inl valid ↦ elim (unassigned_or v (chars line)) as (λ _. HasOne (IsAnswerWithinBy IsKeyOf v end line)) [
      | inl all ↦ to_key valid all
      | inr (at, code, first) ↦ to_unassigned valid at code first
    ]
    | inr invalid ↦ to_text invalid
  ]

  one_in : (most_bytes < length line) ⊎ (length line ≤ most_bytes) → HasOne (IsAnswerBy IsKeyOf v end line)
  one_in (inl long) =
      let answer = told_refusal (codes "too long") in
      (answer, inl (long, refl), λ other h. elim h as (λ _. other ≡ answer) [ inl is ↦ is.1 | inr short ↦ let within = short.0 in absurd (omega arith) ])
  one_in (inr short) =
      let within = one_within in
      (within.0, inr (short, within.1), λ other h. elim h as (λ _. other ≡ within.0) [ inl long ↦ let past = long.0 in absurd (omega arith) | inr is ↦ within.2 other is.1 ])

pub one_answer_by : (IsKeyOf : List ℕ → List ℕ → Type 0) (v : VersionData) (end : LineEnd) (line : List ℕ) → HasOne (IsKeyOf (chars line)) → HasOne (IsAnswerBy IsKeyOf v end line)
one_answer_by IsKeyOf v end line one = one_in IsKeyOf v end line one (cases_lt most_bytes (length line))

pub one_answer : OneAnswer
one_answer v wanted line sound =
    one_answer_by (IsNormalForm v wanted.form) v wanted.end line
    (normal_form v wanted.form (chars line), IsNormalForm-normal_form v sound wanted.form (chars line), λ list is. normal_form_is v sound wanted.form (chars line) list is)

-- ---- no byte that ends lines

abbrev IsPrinted : ℕ → Type 0
IsPrinted b = 32 ≤ b

no_end : (end : LineEnd) (b : ℕ) → IsPrinted b → b ≢ byte_of end
no_end Lf b h e = absurd (omega arith)
no_end Nul b h e = absurd (omega arith)

printed : (end : LineEnd) (bytes : List ℕ) → All IsPrinted bytes → HasNo (byte_of end) bytes
printed end bytes h = All-weaker IsPrinted (not_byte (byte_of end)) (no_end end) bytes h

printed_all : (bytes : List ℕ) → list_all (leb 32) bytes ≡ true → All IsPrinted bytes
printed_all [] h = All-nil IsPrinted
printed_all (b ∷ bs) h = let parts = and_parts (leb 32 b) (list_all (leb 32) bs) h in All-cons IsPrinted b bs (leb-true 32 b parts.0) (printed_all bs parts.1)

printed_decimal : (n : ℕ) → n < 2 ^ 64 → All IsPrinted (decimal n)
printed_decimal n h =
    decimal_by_steps (λ _ ds. All IsPrinted ds) (λ d small. All-cons IsPrinted (48 + d) [] (omega arith) (All-nil IsPrinted))
    (λ m ds more printed. All-append IsPrinted ds ((48 + m % 10) ∷ []) printed (All-cons IsPrinted (48 + m % 10) [] (omega arith) (All-nil IsPrinted)))
    n h

printed_digit : (d : ℕ) → IsPrinted (hex_digit d)
printed_digit d = cond_both (nat_lt d 10) (48 + d) (55 + d) IsPrinted (λ e. omega arith) (λ e. omega arith)

printed_code : (code : ℕ) → All IsPrinted (code_digits code)
unfolding code_digits
printed_code code =
    All-append IsPrinted _ _ (All-replicate IsPrinted _ 48 (omega arith)) (All-map IsPrinted hex_digit (digits_of 16 code) (λ k d lt. printed_digit _))

-- a place in a line within the limit
place_within : (line : List ℕ) (at : ℕ) → at ≤ length line → length line ≤ most_bytes → at < 2 ^ 64
place_within line at within short = omega arith

place_of_first : (v : VersionData) (line : List ℕ) (at code : ℕ) → IsUnassigned v line at code → at ≤ length line
place_of_first v line at code u =
    let f = u.first in
    let parts : encode_utf8_all f.before ++ encode_utf8_all (code ∷ f.after) ≡ line =
    sym (encodes-append f.before (code ∷ f.after)) ∙ ap encode_utf8_all (sym f.split) ∙ encodes-chars line u.valid in
    let sizes = ap length parts in
    let place = f.place in
    omega (arith, length-append (encode_utf8_all f.before) (encode_utf8_all (code ∷ f.after)))

refusal_printed : (end : LineEnd) (why : List ℕ) → All IsPrinted why → HasNo (byte_of end) (told_refusal why)
refusal_printed end why h = printed end (told_refusal why) (All-cons IsPrinted 33 why (omega arith) h)

told_no_end : (end : LineEnd) (key answer : List ℕ) → IsToldKey end key answer → HasNo (byte_of end) answer
told_no_end end key answer (inl (free, is)) = subst (HasNo (byte_of end)) (sym is) (All-cons (not_byte (byte_of end)) 61 key (no_end end 61 (omega arith)) free)
told_no_end end key answer (inr (some, is)) = subst (HasNo (byte_of end)) (sym is) (refusal_printed end (codes "line end in key") (printed_all (codes "line end in key") refl))

within_no_end : (IsKeyOf : List ℕ → List ℕ → Type 0) (v : VersionData) (end : LineEnd) (line answer : List ℕ) → length line ≤ most_bytes → IsAnswerWithinBy IsKeyOf v end line answer → HasNo (byte_of end) answer
within_no_end IsKeyOf v end line answer short (inl (at, no_text, is)) =
    subst (HasNo (byte_of end)) (sym is)
    (refusal_printed end (not_utf8 at)
    (All-append IsPrinted (codes "not UTF-8 at byte ") (decimal at) (printed_all (codes "not UTF-8 at byte ") refl) (printed_decimal at (place_within line at no_text.longest.within short))))
within_no_end IsKeyOf v end line answer short (inr (inl (at, code, lacks, is))) =
    subst (HasNo (byte_of end)) (sym is)
    (refusal_printed end (unassigned at code)
    (All-append IsPrinted (codes "unassigned ") (code_digits code ++ (codes " at byte " ++ decimal at)) (printed_all (codes "unassigned ") refl)
    (All-append IsPrinted (code_digits code) (codes " at byte " ++ decimal at) (printed_code code)
    (All-append IsPrinted (codes " at byte ") (decimal at) (printed_all (codes " at byte ") refl) (printed_decimal at (place_within line at (place_of_first v line at code lacks) short))))))
within_no_end IsKeyOf v end line answer short (inr (inr (key, is, told))) = told_no_end end key answer told

answer_no_end : (IsKeyOf : List ℕ → List ℕ → Type 0) (v : VersionData) (end : LineEnd) (line answer : List ℕ) → IsAnswerBy IsKeyOf v end line answer → HasNo (byte_of end) answer
answer_no_end IsKeyOf v end line answer (inl (long, is)) = subst (HasNo (byte_of end)) (sym is) (refusal_printed end (codes "too long") (printed_all (codes "too long") refl))
answer_no_end IsKeyOf v end line answer (inr (short, within)) = within_no_end IsKeyOf v end line answer short within

answers_no_end : (IsKeyOf : List ℕ → List ℕ → Type 0) (v : VersionData) (end : LineEnd) (lines answers : List (List ℕ)) → AllZip (IsAnswerBy IsKeyOf v end) lines answers → All (HasNo (byte_of end)) answers
answers_no_end IsKeyOf v end [] [] h = All-nil (HasNo (byte_of end))
answers_no_end IsKeyOf v end [] (answer ∷ answers) h = absurd h
answers_no_end IsKeyOf v end (line ∷ lines) [] h = absurd h
answers_no_end IsKeyOf v end (line ∷ lines) (answer ∷ answers) h =
    All-cons (HasNo (byte_of end)) answer answers (answer_no_end IsKeyOf v end line answer h.0) (answers_no_end IsKeyOf v end lines answers h.1)

pub answers_are_lines_by : (IsKeyOf : List ℕ → List ℕ → Type 0) (v : VersionData) (end : LineEnd) (lines answers : List (List ℕ)) → AllZip (IsAnswerBy IsKeyOf v end) lines answers
    → AreLines end (ended end answers) answers
answers_are_lines_by IsKeyOf v end lines answers h = record {
  whole = answers;
  rest = [];
  cut = record {
    joined = sym (append-nil (ended end answers));
    apart = answers_no_end IsKeyOf v end lines answers h;
    unended = All-nil (not_byte (byte_of end));
  };
  lines_are = sym (append-nil answers);
}

pub answers_are_lines : AnswersAreLines
answers_are_lines v wanted lines answers h = answers_are_lines_by (IsNormalForm v wanted.form) v wanted.end lines answers h
