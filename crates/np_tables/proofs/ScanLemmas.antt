-- How far a scan comes by the quick checks of code points, and over starters that pass whatever stands before them.
use Rattle.std.proofs.Common.{◌≡◌, ℕ, ◌<◌, ◌≤◌, true, List, Option, ◌++◌, length, length-append, encode_utf8, encode_utf8_all, ap, arith, inl, IsUtf8}
use Rattle.std.proofs.Common.{◌+◌, ◌-◌, [], ◌∷◌, All, append_assoc, chars, take, drop, get_or, refl, sym, subst, ◌∙◌, inr}
use Rattle.np_tables.proofs.Words.{All-head, All-tail, AreYes, BeginsWithChar, Follows, FollowsByQuickCheck, IsPast, IsUtf8-past_char, IsUtf8-take, IsWalkedTo}
use Rattle.np_tables.proofs.Words.{IsYes, PassesCode, ScansOn, VersionData, and_parts, cases_lt, chars-append, chars_from_encodes, chars_past_char}
use Rattle.np_tables.proofs.Words.{drop-drop, drop_at, length-drop}
use Rattle.np_tables.specs.declared.scans.Scan.{Scan}
use Rattle.np_tables.proofs.QuickSpanLemmas.{IsWalkedTo-next, IsWalkedTo-past, ascii_follows}
use Rattle.np_versions.proofs.Utf8Lemmas.{encode_four, encode_one, encode_three, encode_two}
use Rattle.std.proofs.lemmas.List.{take-append-drop}
use Rattle.std.proofs.lemmas.List.Elements.{All-cons, All-nil}
use Rattle.std.proofs.lemmas.Str.{IsCharBoundary-from_drop}
use lib.Utf8.{scalar, scalar_cases, scalars}

module _ (s : Scan) where
  abbrev Step : VersionData → Option ℕ → ℕ → ℕ → ℕ → Type 0
  Step v = Follows v s.least s.index.now s.quick_checks.now s.form

  -- what goes on from there goes on from here
  pub goes-both : (text here rest : List ℕ) (low middle next : ℕ) → ScansOn s text low here middle → ScansOn s here middle rest next → ScansOn s text low rest next
  goes-both text here rest low middle next one two =
      record {
        least = two.least;
        walks = λ v t last behind walked. (let on = one.walks v t last behind walked in two.walks v t on.0 on.1.0 on.1.1);
        front = omega (arith, one.front, two.front);
        utf8 = two.utf8;
      }

  -- over nothing
  pub goes-none : (text : List ℕ) (low : ℕ) → s.least ≤ low → IsUtf8 text → ScansOn s text low text low
  goes-none text low least utf8 = record { least = least; walks = λ v t last under walked. (last, (under, walked)); front = omega arith; utf8 = utf8 }

  -- over a character
  pub goes-past : (text : List ℕ) (low c : ℕ) (rest : List ℕ) (next : ℕ) → IsUtf8 text → s.least ≤ next → PassesCode s low c next → text ≡ encode_utf8 c ++ rest → ScansOn s text low rest next
  goes-past text low c rest next utf8 least passes parts =
      record {
        least = least;
        walks = λ v t last behind walked. (let on = passes last behind in (on.0, (on.1.0, IsWalkedTo-next (Step v) t text last c rest on.0 walked parts (inl on.1.1))));
        front = omega (arith, ap length parts, length-append (encode_utf8 c) rest);
        utf8 = IsUtf8-past_char text rest c utf8 parts;
      }

  -- over ASCII
  pub goes-ascii : (text : List ℕ) (low c : ℕ) (next rest : List ℕ) → s.ascii ≡ true → s.least ≤ low → low ≤ 255 → c < 128 → text ≡ encode_utf8 c ++ next → IsPast (λ d. d < 128) next rest → ScansOn s text low rest s.least
  goes-ascii text low c next rest on le top low_c parts past =
      let follows = ascii_follows s.least s.index.now s.quick_checks.now s.form (omega arith) (s.ascii_is_yes on) in
      record {
        least = omega arith;
        walks = λ v t last behind walked.
            (let first = IsWalkedTo-next (Step v) t text last c next 0 walked parts (inl (follows last c low_c)) in
            (0, (omega arith, IsWalkedTo-past (Step v) (λ d. d < 128) (λ before d lt. inl (follows 0 d lt)) t next rest first past)));
        front = omega (arith, ap length parts, length-append (encode_utf8 c) next, ap length past.split, length-append (encode_utf8_all past.front) rest);
        utf8 = past.utf8;
      }

-- ---- the bytes of a character

-- the bytes of a character of several, as by its size
by_bytes : (c : ℕ) → (P : Type 0)
    → (c < 0x80 → encode_utf8 c ≡ c ∷ [] → P)
    → ((x y : ℕ) → 192 ≤ x → y < 192 → encode_utf8 c ≡ x ∷ y ∷ [] → P)
    → ((x y z : ℕ) → 192 ≤ x → y < 192 → z < 192 → encode_utf8 c ≡ x ∷ y ∷ z ∷ [] → P)
    → ((x y z w : ℕ) → 192 ≤ x → y < 192 → z < 192 → w < 192 → encode_utf8 c ≡ x ∷ y ∷ z ∷ w ∷ [] → P)
    → P
by_bytes c P one two three four = grind (arith, encode_one, two, encode_two, three, encode_three, four, encode_four)

pub encode_some : (c : ℕ) → 0 < length (encode_utf8 c)
encode_some c =
    by_bytes c (0 < length (encode_utf8 c))
    (λ _ e. omega (arith, ap length e))
    (λ x y _ _ e. omega (arith, ap length e))
    (λ x y z _ _ _ e. omega (arith, ap length e))
    (λ x y z w _ _ _ _ e. omega (arith, ap length e))

-- behind its first byte a character has none that begins one
pub inside_low : (text : List ℕ) (c count : ℕ) → BeginsWithChar text c count → (k : ℕ) → 1 ≤ k → k < count → get_or text k 0 < 192
inside_low text c count begins k some less =
    let rest = drop count text in
    let size : (l : List ℕ) → encode_utf8 c ≡ l → length l ≡ count = λ l e. omega (arith, begins.long, ap length begins.parts, length-append (encode_utf8 c) rest, length-drop count text, ap length e) in
    let read : (l : List ℕ) → encode_utf8 c ≡ l → text ≡ l ++ rest = λ l e. begins.parts ∙ ap (λ x. x ++ rest) e in
    by_bytes c (get_or text k 0 < 192)
    (λ single e. absurd (omega (arith, begins.some, size _ e)))
    (λ x y _ low e. subst (λ l. get_or l k 0 < 192) (sym (read _ e)) (two x y rest low k some (omega (arith, less, size _ e))))
    (λ x y z _ low next e. subst (λ l. get_or l k 0 < 192) (sym (read _ e)) (three x y z rest low next k some (omega (arith, less, size _ e))))
    (λ x y z w _ low next last e. subst (λ l. get_or l k 0 < 192) (sym (read _ e)) (four x y z w rest low next last k some (omega (arith, less, size _ e))))
  where
    two : (x y : ℕ) (rest : List ℕ) → y < 192 → (k : ℕ) → 1 ≤ k → k < 2 → get_or (x ∷ y ∷ rest) k 0 < 192
    two x y rest low k some less = let one : k ≡ 1 = omega (arith, some, less) in rw one low

    three : (x y z : ℕ) (rest : List ℕ) → y < 192 → z < 192 → (k : ℕ) → 1 ≤ k → k < 3 → get_or (x ∷ y ∷ z ∷ rest) k 0 < 192
    three x y z rest low next k some less = grind arith

    four : (x y z w : ℕ) (rest : List ℕ) → y < 192 → z < 192 → w < 192 → (k : ℕ) → 1 ≤ k → k < 4 → get_or (x ∷ y ∷ z ∷ w ∷ rest) k 0 < 192
    four x y z w rest low next last k some less = grind arith

-- ---- starters that pass, whatever stands before them

-- a code point is one by its quick check
abbrev pub IsYesIn : Scan → ℕ → Type 0
IsYesIn s c = (c < 0x110000) × IsYes s.form s.index.now s.quick_checks.now c

pub yes_follows : (s : Scan) → s.least ≤ 255 → (last c : ℕ) → IsYesIn s c → FollowsByQuickCheck s.least s.index.now s.quick_checks.now s.form last c 0
yes_follows s le last c starters = (starters.0, omega (arith, starters.1, le), inl starters.1)

module _ (s : Scan) (text : List ℕ) (end at : ℕ) (within : at ≤ length text) where
  -- the code points up to a place
  all_yes : (cs : List ℕ) (from : ℕ) → from ≤ at → scalars cs ≡ true → drop from text ≡ encode_utf8_all cs ++ drop at text → AreYes s text from at → All (IsYesIn s) cs
  all_yes [] from before are e starters = All-nil (IsYesIn s)
  all_yes (c ∷ cs) from before are e starters =
      let parts = and_parts (scalar c) (scalars cs) are in
      let later = encode_utf8_all cs ++ drop at text in
      let whole : drop from text ≡ encode_utf8 c ++ later = e ∙ append_assoc (encode_utf8 c) (encode_utf8_all cs) (drop at text) in
      let size = length (encode_utf8 c) in
      let some : 0 < size = encode_some c in
      let count : at ≡ from + size + length (encode_utf8_all cs) = omega (arith, ap length whole, length-append (encode_utf8 c) later, length-append (encode_utf8_all cs) (drop at text), length-drop from text, length-drop at text, within, before) in
      let scalar : c < 0x110000 = grind (arith, scalar_cases c parts.0) in
      All-cons (IsYesIn s) c cs (scalar, starters from (omega arith) (omega (arith, count, some)) c later scalar whole)
      (all_yes cs (from + size) (omega (arith, count)) parts.1 (sym (drop-drop size from text) ∙ ap (drop size) whole ∙ drop_at (encode_utf8 c) later size refl) (λ k ge lt. starters k (omega (arith, ge)) lt))

  pub past_yes : end ≤ at → IsUtf8 (drop end text) → IsUtf8 (drop at text) → AreYes s text end at → IsPast (IsYesIn s) (drop end text) (drop at text)
  past_yes before utf8 rest starters =
      let m = at - end in
      let t = drop end text in
      let whole : end + m ≡ at = omega (arith, before) in
      let same : drop m t ≡ drop at text = drop-drop m end text ∙ ap (λ n. drop n text) whole in
      let cut = IsCharBoundary-from_drop t m (omega (arith, length-drop end text, within, before)) (subst IsUtf8 (sym same) rest) in
      let front = IsUtf8-take t m utf8 cut in
      let halves : t ≡ take m t ++ drop at text = sym (take-append-drop m t) ∙ ap (λ l. take m t ++ l) same in
      let split : t ≡ encode_utf8_all front.0 ++ drop at text = halves ∙ ap (λ l. l ++ drop at text) (sym front.1.1) in
      record {
        front = front.0;
        split = split;
        text_is = ap chars halves ∙ chars-append (take m t) (drop at text) front ∙ ap (λ l. l ++ chars (drop at text)) (sym (chars_from_encodes front.0 (take m t) front front.1.1));
        utf8 = rest;
        passed = all_yes front.0 end before front.1.0 split starters;
      }

-- ---- what a scan passed of a text is a walk

module _ (s : Scan) (le : s.least ≤ 255) where
  -- some starters that pass, and they lead to 0
  past_some : (v : VersionData) (t rest later : List ℕ) (last : ℕ) → IsWalkedTo (Step s v) t rest last → (past : IsPast (IsYesIn s) rest later) → length later < length rest → IsWalkedTo (Step s v) t later 0
  past_some v t rest later last walked past less = of past.front past.split past.text_is past.passed
    where
      of : (front : List ℕ) → rest ≡ encode_utf8_all front ++ later → chars rest ≡ front ++ chars later → All (IsYesIn s) front → IsWalkedTo (Step s v) t later 0
      of [] e read all = absurd (omega (arith, less, ap length e))
      of (c ∷ cs) e read all =
          let next = encode_utf8_all cs ++ later in
          let parts : rest ≡ encode_utf8 c ++ next = e ∙ append_assoc (encode_utf8 c) (encode_utf8_all cs) later in
          let first = IsWalkedTo-next (Step s v) t rest last c next 0 walked parts (inl (yes_follows s le last c (All-head (IsYesIn s) c cs all))) in
          IsWalkedTo-past (Step s v) (IsYesIn s) (λ before d starters. inl (yes_follows s le 0 d starters)) t next later first
          record {
            front = cs;
            split = refl;
            text_is = ap (λ l. drop 1 l) (sym (chars_past_char rest next c walked.utf8 parts) ∙ read);
            utf8 = past.utf8;
            passed = All-tail (IsYesIn s) c cs all;
          }

  -- from `end`, behind which there are only such up to `at`
  pub goes-at : (text before : List ℕ) (end at low now behind : ℕ) → end ≤ at → at ≤ length text → AreYes s text end at
      → s.least ≤ behind → (end < at → behind ≡ s.least) → (at ≤ end → behind ≡ now) → IsUtf8 (drop at text) → ScansOn s before low (drop end text) now → ScansOn s before low (drop at text) behind
  goes-at text before end at low now behind order within starters least less_is same_is utf8 goes =
      record {
        least = least;
        walks = elim (cases_lt end at) [
          | inl less ↦ λ v t last under walked.
              (let one = goes.walks v t last under walked in
              (0, (omega arith, past_some v t (drop end text) (drop at text) one.0 one.1.1 (past_yes s text end at within order goes.utf8 utf8 starters) (omega (arith, length-drop at text, length-drop end text, less, within)))))
          | inr more ↦ λ v t last under walked.
              (let one = goes.walks v t last under walked in
              let same : end ≡ at = omega (arith, order, more) in
              (one.0, (omega (arith, one.1.0, same_is more), subst (λ l. IsWalkedTo (Step s v) t l one.0) (ap (λ k. drop k text) same) one.1.1)))
        ];
        front = omega (arith, length-drop at text, length-drop end text, goes.front, order);
        utf8 = utf8;
      }
