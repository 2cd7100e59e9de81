-- A text that was read up to some place.
use Rattle.std.proofs.Common.{◌≡◌, ℕ, ◌-◌, Bool, true, false, List, [], ◌∷◌, ◌++◌, length, chars, IsUtf8, encode_utf8, encode_utf8_all, refl, sym, ap, ◌∙◌, arith, append_assoc, append-nil, length-append}
use Rattle.np_forms.proofs.Words.{and_from, and_parts, both_ways, nil_from_length, chars-append, chars-nil, chars_past_char, encodes-append, encodes-chars}
use Rattle.np_forms.proofs.Words.{IsUtf8-past_char, list_all, VersionData, is_assigned, IsAssigned, IsFirstUnassigned, IsEndOf, IsRead, IsReadAssigned}
use Rattle.std.proofs.lemmas.List.Folds.{list_all-append}

pub list_all-front : (p : ℕ → Bool) (xs ys : List ℕ) → list_all p (xs ++ ys) ≡ true → list_all p xs ≡ true
list_all-front p xs ys all = (and_parts _ _ (sym (list_all-append p xs ys) ∙ all)).0

pub list_all-back : (p : ℕ → Bool) (xs ys : List ℕ) → list_all p (xs ++ ys) ≡ true → list_all p ys ≡ true
list_all-back p xs ys all = (and_parts _ _ (sym (list_all-append p xs ys) ∙ all)).1

-- what has a code point that is not assigned is not assigned
pub lacks-unassigned : (v : VersionData) (xs : List ℕ) (at code : ℕ) → IsFirstUnassigned v xs at code → IsAssigned v xs → ⊥
lacks-unassigned v xs at code first all =
    let here = list_all-back (is_assigned v) first.before (code ∷ first.after) (ap (list_all (is_assigned v)) (sym first.split) ∙ all) in
    both_ways _ first.lacks (and_parts (is_assigned v code) (list_all (is_assigned v) first.after) here).0

-- ---- texts in two parts

module _ (v : VersionData) (text front back : List ℕ) (utf8 : IsUtf8 front) (parts : text ≡ front ++ back) where
  pub assigned-front : IsAssigned v (chars text) → IsAssigned v (chars front)
  assigned-front all = list_all-front (is_assigned v) (chars front) (chars back) (ap (list_all (is_assigned v)) (sym (chars-append front back utf8) ∙ sym (ap chars parts)) ∙ all)

  pub assigned-back : IsAssigned v (chars text) → IsAssigned v (chars back)
  assigned-back all = list_all-back (is_assigned v) (chars front) (chars back) (ap (list_all (is_assigned v)) (sym (chars-append front back utf8) ∙ sym (ap chars parts)) ∙ all)

  pub assigned-both : IsAssigned v (chars front) → IsAssigned v (chars back) → IsAssigned v (chars text)
  assigned-both one two = ap (list_all (is_assigned v)) (ap chars parts ∙ chars-append front back utf8) ∙ list_all-append (is_assigned v) (chars front) (chars back) ∙ and_from _ _ one two

-- ---- texts that were read up to some place

pub IsRead-start : (text : List ℕ) → IsUtf8 text → IsRead text text []
IsRead-start text utf8 = record { utf8 = utf8; bytes = refl; split = refl }

pub IsRead-both : (text middle rest one two : List ℕ) → IsRead text middle one → IsRead middle rest two → IsRead text rest (one ++ two)
IsRead-both text middle rest one two first second =
    record {
      utf8 = second.utf8;
      bytes = first.bytes ∙ ap (λ l. encode_utf8_all one ++ l) second.bytes ∙ sym (append_assoc (encode_utf8_all one) (encode_utf8_all two) rest) ∙ ap (λ l. l ++ rest) (sym (encodes-append one two));
      split = first.split ∙ ap (λ l. one ++ l) second.split ∙ sym (append_assoc one two (chars rest));
    }

pub IsRead-next : (text rest : List ℕ) (c : ℕ) (later front : List ℕ) → rest ≡ encode_utf8 c ++ later → IsRead text rest front → IsRead text later (front ++ c ∷ [])
IsRead-next text rest c later front begins r =
    let bytes = begins ∙ ap (λ l. l ++ later) (sym (append-nil (encode_utf8 c))) in
    IsRead-both text rest later front (c ∷ []) r (record { utf8 = IsUtf8-past_char rest later c r.utf8 begins; bytes = bytes; split = chars_past_char rest later c r.utf8 begins })

pub IsRead-end : (text rest front : List ℕ) → IsRead text rest front → IsEndOf text rest
IsRead-end text rest front r = record { front = encode_utf8_all front; parts = r.bytes; utf8 = r.utf8 }

module _ (v : VersionData) where
  pub IsReadAssigned-start : (s : List ℕ) → IsUtf8 s → IsReadAssigned v s s
  IsReadAssigned-start s utf8 = record { before = []; reads = IsRead-start s utf8; assigned = refl }

  pub IsReadAssigned-both : (s middle rest : List ℕ) → IsReadAssigned v s middle → IsReadAssigned v middle rest → IsReadAssigned v s rest
  IsReadAssigned-both s middle rest one two =
      record {
        before = one.before ++ two.before;
        reads = IsRead-both s middle rest one.before two.before one.reads two.reads;
        assigned = list_all-append (is_assigned v) one.before two.before ∙ and_from _ _ one.assigned two.assigned;
      }

  -- behind a front that is assigned
  pub IsReadAssigned-front : (s front rest : List ℕ) → s ≡ front ++ rest → IsUtf8 front → IsUtf8 rest → IsAssigned v (chars front) → IsReadAssigned v s rest
  IsReadAssigned-front s front rest parts of_front of_rest all =
      let bytes = parts ∙ ap (λ l. l ++ rest) (sym (encodes-chars front of_front)) in
      record { before = chars front; reads = record { utf8 = of_rest; bytes = bytes; split = ap chars parts ∙ chars-append front rest of_front }; assigned = all }

  -- what is left of an assigned text is assigned
  pub IsReadAssigned-rest : (s rest : List ℕ) → IsReadAssigned v s rest → IsAssigned v (chars s) → IsAssigned v (chars rest)
  IsReadAssigned-rest s rest r all = list_all-back (is_assigned v) r.before (chars rest) (ap (list_all (is_assigned v)) (sym r.reads.split) ∙ all)

  pub IsReadAssigned-next : (s rest : List ℕ) (c : ℕ) (later : List ℕ) → IsReadAssigned v s rest → rest ≡ encode_utf8 c ++ later → is_assigned v c ≡ true → IsReadAssigned v s later
  IsReadAssigned-next s rest c later r e has =
      record {
        before = r.before ++ c ∷ [];
        reads = IsRead-next s rest c later r.before e r.reads;
        assigned = list_all-append (is_assigned v) r.before (c ∷ []) ∙ and_from _ _ r.assigned (and_from _ _ has refl);
      }

  pub IsReadAssigned-end : (s rest : List ℕ) → IsReadAssigned v s rest → length rest ≡ 0 → IsAssigned v (chars s)
  IsReadAssigned-end s rest r none =
      ap (list_all (is_assigned v)) (r.reads.split ∙ ap (λ l. r.before ++ l) (ap chars (nil_from_length rest none) ∙ chars-nil) ∙ append-nil r.before) ∙ r.assigned

  pub IsReadAssigned-stop : (s rest : List ℕ) (c : ℕ) (later : List ℕ) → IsReadAssigned v s rest → rest ≡ encode_utf8 c ++ later → is_assigned v c ≡ false → IsFirstUnassigned v (chars s) (length s - length rest) c
  IsReadAssigned-stop s rest c later r e lacks =
      record {
        before = r.before;
        after = chars later;
        split = r.reads.split ∙ ap (λ l. r.before ++ l) (chars_past_char rest later c r.reads.utf8 e);
        assigned = r.assigned;
        lacks = lacks;
        place = omega (arith, ap length r.reads.bytes, length-append (encode_utf8_all r.before) rest);
      }
