-- Syllables written as the bytes of their jamo, and texts that begin with one.
use Rattle.std.proofs.Common.{◌≡◌, ℕ, ◌+◌, ◌-◌, ◌*◌, ◌/◌, ◌%◌, ◌<◌, ◌≤◌, ◌≢◌, true, List, [], ◌∷◌, ◌++◌, length, get_or, chars, IsCharBoundary, IsUtf8}
use Rattle.std.proofs.Common.{encode_utf8_all, drop, encode_utf8, inl, inr, refl, zero, suc, sym, take, ap, subst, ◌∙◌, arith, false, MatchBool, flat_map}
use Rattle.std.proofs.Common.{append-nil, length-append, length-drop}
use lib.Utf8.{low_scalar, scalar, scalars}
use Rattle.np_forms.proofs.Words.{and_from, cases_eq, drop-cons, le-leb, lt-ltb, take-append-drop, chars-append, chars-encodes, IsCharBoundary-from_take}
use Rattle.np_forms.proofs.Words.{is_syllable, IsAssigned, BeginsWithJamo, syllable_parts, VersionData, class_of, has_hangul, is_assigned, chars_past_char}
use Rattle.np_forms.proofs.Words.{IsUtf8-drop, IsUtf8-past_char, length-le-encodes, list_all, is_compat, composes, is_among, Form, AsciiIsCopiedAlone}
use Rattle.np_forms.proofs.Words.{AppendsForm, IsCopied, LeadingAreBoundaries, IsCopiedAlone, canonical_order, decomposed, ended, normal_form, IsReadAssigned}
use Rattle.np_forms.proofs.Words.{BeginsWithSyllable, BeginsAtBoundary, ComposesTo, IsBoundary, IsYesStarter, IsSound, IsFullDecomposition, is_final, full_of}
use Rattle.np_code_points.proofs.HangulLemmas.{pair_of_lv, pair_of_lvt, among_bounds}
use Rattle.np_forms.proofs.SegmentLemmas.{IsClosed, closed-starter, form-closed, goes-made}
use Rattle.np_versions.proofs.Utf8Lemmas.{encode_three}
use Rattle.np_forms.proofs.SyllableLemmas.{syllable_parts-two, syllable_parts-three, full_of-jamo, full_of-syllable}
use Rattle.np_versions.proofs.HangulLemmas.{Runs, hangul_runs, IsJamo, by_arithmetic, lv_shape, lvt_shape, syllable_hangul, leading_jamo}
use Rattle.np_forms.proofs.StreamLemmas.{ended-folds, is_ordered-never_falls, rises_from}
use Rattle.np_forms.proofs.CopyLemmas.{IsCopied-at, parts-at}
use Rattle.np_forms.proofs.OrderLemmas.{canonical_order-ordered}
use Rattle.np_versions.proofs.MappingLemmas.{IsFullDecomposition-full_of, flat_map-final, full_of-only}
use Rattle.np_versions.proofs.TableLemmas.{unfolds}
use Rattle.np_versions.specs.Composites.{IsCompositeOf}

-- ---- characters of three bytes

-- the bytes of a character
abbrev pub IsThree : ℕ → ℕ → ℕ → ℕ → Type 0
IsThree c x y z = (x ≡ 224 + c / 4096) × (y ≡ 128 + c / 64 % 64) × (z ≡ 128 + c % 64)

abbrev pub IsMiddle : ℕ → Type 0
IsMiddle c = (0x800 ≤ c) × (c < 0xD800)

pub encoded : (c x y z : ℕ) → IsMiddle c → IsThree c x y z → encode_utf8 c ≡ x ∷ y ∷ z ∷ []
encoded c x y z range is =
    encode_three c range.0 (omega (arith, range.1)) ∙ ap (λ p. p ∷ (128 + c / 64 % 64) ∷ (128 + c % 64) ∷ []) (sym is.0) ∙ ap (λ p. x ∷ p ∷ (128 + c % 64) ∷ []) (sym is.1) ∙ ap (λ p. x ∷ y ∷ p ∷ []) (sym is.2)

pub two_encoded : (a b x y z x2 y2 z2 : ℕ) → IsMiddle a → IsMiddle b → IsThree a x y z → IsThree b x2 y2 z2 → encode_utf8_all (a ∷ b ∷ []) ≡ x ∷ y ∷ z ∷ x2 ∷ y2 ∷ z2 ∷ []
two_encoded a b x y z x2 y2 z2 of_a of_b is_a is_b =
    ap (λ l. l ++ (encode_utf8 b ++ [])) (encoded a x y z of_a is_a) ∙ ap (λ l. x ∷ y ∷ z ∷ (l ++ [])) (encoded b x2 y2 z2 of_b is_b)

pub three_encoded : (a b c x y z x2 y2 z2 x3 y3 z3 : ℕ) → IsMiddle a → IsMiddle b → IsMiddle c → IsThree a x y z → IsThree b x2 y2 z2 → IsThree c x3 y3 z3 →
    encode_utf8_all (a ∷ b ∷ c ∷ []) ≡ x ∷ y ∷ z ∷ x2 ∷ y2 ∷ z2 ∷ x3 ∷ y3 ∷ z3 ∷ []
three_encoded a b c x y z x2 y2 z2 x3 y3 z3 of_a of_b of_c is_a is_b is_c =
    ap (λ l. l ++ encode_utf8_all (b ∷ c ∷ [])) (encoded a x y z of_a is_a) ∙ ap (λ l. x ∷ y ∷ z ∷ l) (two_encoded b c x2 y2 z2 x3 y3 z3 of_b of_c is_b is_c)

pub middle-scalar : (c : ℕ) → IsMiddle c → scalar c ≡ true
middle-scalar c range = low_scalar c range.1

-- ---- the jamo by one division

module _ (s : ℕ) (h : is_syllable s ≡ true) where
  pub parts-lv : (s - 0xAC00) % 28 ≡ 0 → syllable_parts s ≡ (0x1100 + (s - 0xAC00) / 28 / 21) ∷ (0x1161 + (s - 0xAC00) / 28 % 21) ∷ []
  parts-lv even =
      let lv = lv_shape s h even in
      let leading : (s - 0xAC00) / 588 ≡ (s - 0xAC00) / 28 / 21 = omega arith in
      let vowel : (s - 0xAC00) % 588 / 28 ≡ (s - 0xAC00) / 28 % 21 = omega arith in
      syllable_parts-two s lv.leading lv.vowel h lv.pair lv.first.single ∙ sym lv.pair ∙ pair_of_lv s even
      ∙ ap (λ x. (0x1100 + x) ∷ (0x1161 + (s - 0xAC00) % 588 / 28) ∷ []) leading ∙ ap (λ x. (0x1100 + (s - 0xAC00) / 28 / 21) ∷ (0x1161 + x) ∷ []) vowel

  pub parts-lvt : (s - 0xAC00) % 28 ≢ 0 → syllable_parts s ≡ (0x1100 + (s - 0xAC00) / 28 / 21) ∷ (0x1161 + (s - 0xAC00) / 28 % 21) ∷ (0x11A7 + (s - 0xAC00) % 28) ∷ []
  parts-lvt odd =
      let shape = lvt_shape s h odd in
      let lv = shape.front in
      let pair = sym shape.pair ∙ pair_of_lvt s odd in
      let base : shape.base ≡ s - (s - 0xAC00) % 28 = ap (λ l. get_or l 0 0) pair in
      let again = sym lv.pair ∙ pair_of_lv shape.base (omega (arith, base)) in
      let leading : lv.leading ≡ 0x1100 + (s - 0xAC00) / 28 / 21 = omega (arith, base, ap (λ l. get_or l 0 0) again) in
      let vowel : lv.vowel ≡ 0x1161 + (s - 0xAC00) / 28 % 21 = omega (arith, base, ap (λ l. get_or l 1 0) again) in
      syllable_parts-three s shape.base shape.last lv.leading lv.vowel h shape.pair lv.syllable lv.pair
      ∙ ap (λ x. x ∷ lv.vowel ∷ shape.last ∷ []) leading ∙ ap (λ x. (0x1100 + (s - 0xAC00) / 28 / 21) ∷ x ∷ shape.last ∷ []) vowel
      ∙ ap (λ x. (0x1100 + (s - 0xAC00) / 28 / 21) ∷ (0x1161 + (s - 0xAC00) / 28 % 21) ∷ x ∷ []) (ap (λ l. get_or l 1 0) pair)

-- ---- syllables from the bytes of their jamo

-- what holds of no code point, and of a jamo before what it holds of, holds of the jamo of a syllable
pub each_jamo : (P : List ℕ → Type 0) → P [] → ((c : ℕ) (cs : List ℕ) → IsJamo c → P cs → P (c ∷ cs)) → (s : ℕ) → is_syllable s ≡ true → P (syllable_parts s)
each_jamo P none more s h =
    elim (cases_eq ((s - 0xAC00) % 28) 0) [
      | inl even ↦
          let lv = lv_shape s h even in
          subst P (sym (syllable_parts-two s lv.leading lv.vowel h lv.pair lv.first.single)) (more lv.leading (lv.vowel ∷ []) lv.first (more lv.vowel [] lv.second none))
      | inr odd ↦
          let shape = lvt_shape s h odd in
          let lv = shape.front in
          let last = more shape.last [] shape.back none in
          subst P (sym (syllable_parts-three s shape.base shape.last lv.leading lv.vowel h shape.pair lv.syllable lv.pair))
          (more lv.leading (lv.vowel ∷ shape.last ∷ []) lv.first (more lv.vowel (shape.last ∷ []) lv.second last))
    ]

jamo-scalar : (c : ℕ) → IsJamo c → scalar c ≡ true
unfolding Runs
jamo-scalar c jamo = low_scalar c (omega (arith, hangul_runs c jamo.hangul))

pub parts-scalars : (s : ℕ) → is_syllable s ≡ true → scalars (syllable_parts s) ≡ true
parts-scalars s h = each_jamo (λ l. scalars l ≡ true) refl (λ c cs jamo all. and_from _ _ (jamo-scalar c jamo) all) s h

-- the first bytes one by one
abbrev bytes_of : ℕ → ℕ → List ℕ → List ℕ
bytes_of zero at l = []
bytes_of (suc n) at l = get_or l at 0 ∷ bytes_of n (suc at) l

take-bytes : (n at : ℕ) (l : List ℕ) → at + n ≤ length l → take n (drop at l) ≡ bytes_of n at l
take-bytes zero at l long = refl
take-bytes (suc n) at l long =
    ap (take (suc n)) (drop-cons l at 0 (omega (arith, long))) ∙ ap (λ x. get_or l at 0 ∷ x) (take-bytes n (suc at) l (omega (arith, long)))

-- bytes that encode a leading consonant and a vowel, of which a syllable is made with a trailing consonant or none
module _ (bytes : List ℕ) (leading vowel trailing : ℕ) (long : 9 ≤ length bytes) (leading_consonants : leading < 19) (vowels : vowel < 21) (trailings : trailing < 28)
    (first : encode_utf8 (0x1100 + leading) ≡ get_or bytes 0 0 ∷ get_or bytes 1 0 ∷ get_or bytes 2 0 ∷ [])
    (second : encode_utf8 (0x1161 + vowel) ≡ get_or bytes 3 0 ∷ get_or bytes 4 0 ∷ get_or bytes 5 0 ∷ []) where
  abbrev s : ℕ
  s = 0xAC00 + (leading * 21 + vowel) * 28 + trailing

  pub front-syllable : is_syllable s ≡ true
  front-syllable = and_from _ _ (le-leb 0xAC00 s (omega arith)) (lt-ltb s 0xD7A4 (omega (arith, leading_consonants, vowels, trailings)))

  leading-back : (s - 0xAC00) / 28 / 21 ≡ leading
  leading-back = omega (arith, vowels, trailings)

  vowel-back : (s - 0xAC00) / 28 % 21 ≡ vowel
  vowel-back = omega (arith, vowels, trailings)

  trailing-back : (s - 0xAC00) % 28 ≡ trailing
  trailing-back = omega (arith, trailings)

  both-back : (rest : List ℕ) → (0x1100 + (s - 0xAC00) / 28 / 21) ∷ (0x1161 + (s - 0xAC00) / 28 % 21) ∷ rest ≡ (0x1100 + leading) ∷ (0x1161 + vowel) ∷ rest
  both-back rest = ap (λ x. (0x1100 + x) ∷ (0x1161 + (s - 0xAC00) / 28 % 21) ∷ rest) leading-back ∙ ap (λ x. (0x1100 + leading) ∷ (0x1161 + x) ∷ rest) vowel-back

  -- the bytes of a list of code points that the two begin
  begun : (rest : List ℕ) → encode_utf8_all ((0x1100 + leading) ∷ (0x1161 + vowel) ∷ rest)
      ≡ get_or bytes 0 0 ∷ get_or bytes 1 0 ∷ get_or bytes 2 0 ∷ get_or bytes 3 0 ∷ get_or bytes 4 0 ∷ get_or bytes 5 0 ∷ encode_utf8_all rest
  begun rest = ap (λ l. l ++ (encode_utf8 (0x1161 + vowel) ++ encode_utf8_all rest)) first
      ∙ ap (λ l. get_or bytes 0 0 ∷ get_or bytes 1 0 ∷ get_or bytes 2 0 ∷ (l ++ encode_utf8_all rest)) second

  pub front_two : trailing ≡ 0 → take 6 bytes ≡ encode_utf8_all (syllable_parts s)
  front_two none = take-bytes 6 0 bytes (omega (arith, long)) ∙ sym (ap encode_utf8_all (parts-lv s front-syllable (trailing-back ∙ none) ∙ both-back []) ∙ begun [])

  pub front_three : trailing ≢ 0 → encode_utf8 (0x11A7 + trailing) ≡ get_or bytes 6 0 ∷ get_or bytes 7 0 ∷ get_or bytes 8 0 ∷ [] → take 9 bytes ≡ encode_utf8_all (syllable_parts s)
  front_three some third =
      let parts : syllable_parts s ≡ (0x1100 + leading) ∷ (0x1161 + vowel) ∷ (0x11A7 + trailing) ∷ [] =
      parts-lvt s front-syllable (λ even. some (sym trailing-back ∙ even)) ∙ both-back ((0x11A7 + (s - 0xAC00) % 28) ∷ [])
      ∙ ap (λ x. (0x1100 + leading) ∷ (0x1161 + vowel) ∷ (0x11A7 + x) ∷ []) trailing-back in
      take-bytes 9 0 bytes long ∙ sym (ap encode_utf8_all parts ∙ begun ((0x11A7 + trailing) ∷ [])
      ∙ ap (λ l. get_or bytes 0 0 ∷ get_or bytes 1 0 ∷ get_or bytes 2 0 ∷ get_or bytes 3 0 ∷ get_or bytes 4 0 ∷ get_or bytes 5 0 ∷ (l ++ [])) third)

-- the text as bytes
pub begins_with_jamo : (text bytes : List ℕ) (s n : ℕ) → bytes ≡ text → IsUtf8 text → is_syllable s ≡ true → 0 < n → n ≤ length bytes → take n bytes ≡ encode_utf8_all (syllable_parts s) → BeginsWithJamo text s n
begins_with_jamo text bytes s n same utf8 syllable some within front =
    record { syllable = syllable; utf8 = utf8; some = some; within = subst (λ l. n ≤ length l) same within; front = subst (λ l. take n l ≡ encode_utf8_all (syllable_parts s)) same front }

module _ (text : List ℕ) (s n : ℕ) (begins : BeginsWithJamo text s n) where
  pub jamo-boundary : IsCharBoundary text n
  jamo-boundary = IsCharBoundary-from_take text n begins.utf8 begins.within (syllable_parts s, (parts-scalars s begins.syllable, sym begins.front))

  pub jamo-bytes : text ≡ encode_utf8_all (syllable_parts s) ++ drop n text
  jamo-bytes = sym (take-append-drop n text) ∙ ap (λ l. l ++ drop n text) begins.front

  pub jamo-chars : chars text ≡ syllable_parts s ++ chars (drop n text)
  jamo-chars =
      let parts = syllable_parts s in
      let scalar_parts = parts-scalars s begins.syllable in
      ap chars jamo-bytes ∙ chars-append (encode_utf8_all parts) (drop n text) (parts, (scalar_parts, refl)) ∙ ap (λ l. l ++ chars (drop n text)) (chars-encodes parts scalar_parts)

-- ---- nothing moves into a syllable's jamo

module _ (v : VersionData) (on : has_hangul v ≡ true) where
  pub jamo-starter : (c : ℕ) → IsJamo c → class_of v c ≡ 0
  jamo-starter c jamo = (by_arithmetic v on c jamo.hangul).class

  pub syllable-assigned : (s : ℕ) → is_syllable s ≡ true → is_assigned v s ≡ true
  syllable-assigned s h = (by_arithmetic v on s (syllable_hangul s h)).assigned

  pub parts-assigned : (s : ℕ) → is_syllable s ≡ true → IsAssigned v (syllable_parts s)
  parts-assigned s h = each_jamo (IsAssigned v) refl (λ c cs jamo all. and_from (is_assigned v c) _ (by_arithmetic v on c jamo.hangul).assigned all) s h

  pub closed-parts : (s : ℕ) → is_syllable s ≡ true → IsClosed (class_of v) (syllable_parts s)
  closed-parts s h = each_jamo (IsClosed (class_of v)) (λ later rises. rises) (λ c cs jamo closed. closed-starter (class_of v) c cs (jamo-starter c jamo) closed) s h

-- what the checks of functions cite
pub ruleset syllable_text_answers = (parts-lv, parts-lvt)

-- ---- texts that begin with a syllable, by its jamo or precomposed

-- by the first n bytes
pub begins-jamo : (text later : List ℕ) (s n : ℕ) → BeginsWithJamo text s n → later ≡ drop n text → BeginsWithSyllable text later s
begins-jamo text later s n begins back =
    record {
      syllable = begins.syllable;
      front = syllable_parts s;
      spells = inl refl;
      bytes = jamo-bytes text s n begins ∙ ap (λ l. encode_utf8_all (syllable_parts s) ++ l) (sym back);
      text_is = jamo-chars text s n begins ∙ ap (λ l. syllable_parts s ++ chars l) (sym back);
      utf8 = subst IsUtf8 (sym back) (IsUtf8-drop text n begins.utf8 (jamo-boundary text s n begins));
      shorter = omega (arith, ap length back, length-drop n text, begins.some, begins.within);
    }

pub begins-precomposed : (text later : List ℕ) (s : ℕ) → IsUtf8 text → text ≡ encode_utf8 s ++ later → is_syllable s ≡ true → BeginsWithSyllable text later s
begins-precomposed text later s utf8 begins h =
    let bytes : text ≡ encode_utf8_all (s ∷ []) ++ later = begins ∙ ap (λ l. l ++ later) (sym (append-nil (encode_utf8 s))) in
    record {
      syllable = h;
      front = s ∷ [];
      spells = inr refl;
      bytes = bytes;
      text_is = chars_past_char text later s utf8 begins;
      utf8 = IsUtf8-past_char text later s utf8 begins;
      shorter = omega (arith, ap length bytes, length-append (encode_utf8_all (s ∷ [])) later, length-le-encodes (s ∷ []));
    }

-- ---- the syllable is assigned, and there is no boundary inside it alone

module _ (v : VersionData) (on : has_hangul v ≡ true) where
  -- it is read
  pub syllable-read : (text later : List ℕ) (s : ℕ) → BeginsWithSyllable text later s → IsReadAssigned v text later
  syllable-read text later s begins =
      record {
        before = begins.front;
        reads = record { utf8 = begins.utf8; bytes = begins.bytes; split = begins.text_is };
        assigned = elim begins.spells [
          | inl jamo ↦ subst (IsAssigned v) (sym jamo) (parts-assigned v on s begins.syllable)
          | inr itself ↦ subst (IsAssigned v) (sym itself) (and_from (is_assigned v s) true (syllable-assigned v on s begins.syllable) refl)
        ];
      }

module _ (v : VersionData) (sound : IsSound v) (on : has_hangul v ≡ true) (form : Form) where
  -- its full decomposition is that of its jamo, whichever way it is written
  front-full : (s : ℕ) (text later : List ℕ) (begins : BeginsWithSyllable text later s) → flat_map (full_of v (is_compat form)) begins.front ≡ syllable_parts s
  front-full s text later begins =
      let compat = is_compat form in
      let full = full_of v compat in
      let parts = full_of-syllable v compat sound on s begins.syllable in
      elim begins.spells [
        | inl jamo ↦
            let final : list_all (is_final v compat) (syllable_parts s) ≡ true = subst (λ l. list_all (is_final v compat) l ≡ true) parts (IsFullDecomposition-full_of v compat sound.shallow s).final in
            ap (flat_map full) jamo ∙ flat_map-final v compat sound.shallow (syllable_parts s) final
        | inr itself ↦ ap (flat_map full) itself ∙ append-nil (full s) ∙ parts
      ]

  -- ---- a form that only decomposes

  pub goes-syllable : composes form ≡ false → (text later : List ℕ) (s : ℕ) (old new : List ℕ) → BeginsWithSyllable text later s → new ≡ old ++ encode_utf8_all (syllable_parts s) → AppendsForm v form text later old new
  goes-syllable plain text later s old new begins push =
      goes-made v form text later (syllable_parts s) old new
      (record {
        end = record { front = encode_utf8_all begins.front; parts = begins.bytes; utf8 = begins.utf8 };
        made = ap (normal_form v form) begins.text_is ∙ form-closed v sound form plain begins.front (syllable_parts s) (chars later) (front-full s text later begins) (closed-parts v on s begins.syllable);
      })
      push

  -- ---- a form that composes

  joins : composes form ≡ true → (s : ℕ) → is_syllable s ≡ true → (xs : List ℕ) → flat_map (full_of v (is_compat form)) xs ≡ syllable_parts s → normal_form v form xs ≡ s ∷ []
  unfolding normal_form decomposed
  joins composing s h xs full =
      let compat = is_compat form in
      let is = unfolds v sound on compat s h in
      let parts : syllable_parts s ≡ is.first ∷ is.rest = sym (full_of-syllable v compat sound on s h) ∙ is.full in
      let starter : class_of v is.first ≡ 0 = jamo-starter v on is.first (leading_jamo is.first is.is_leading) in
      let ordered = is_ordered-never_falls (class_of v) (is.first ∷ is.rest) (rises_from (class_of v) is.first is.rest starter is.rises) in
      ap (λ l. ended v (composes form) (canonical_order (class_of v) l)) (full ∙ parts) ∙ ap (ended v (composes form)) (canonical_order-ordered (class_of v) (is.first ∷ is.rest) ordered)
      ∙ ended-folds v sound (composes form) is.first is.rest s starter (subst (λ b. MatchBool b (ComposesTo v is.first is.rest s) (is.first ∷ is.rest ≡ s ∷ [])) (sym composing) is.folds)

  pub goes-joined : composes form ≡ true → (text later : List ℕ) (s : ℕ) (old new : List ℕ) → BeginsWithSyllable text later s → BeginsAtBoundary v form (chars later) → new ≡ old ++ encode_utf8 s → AppendsForm v form text later old new
  goes-joined composing text later s old new begins at push =
      let whole = joins composing s begins.syllable begins.front (front-full s text later begins) in
      goes-made v form text later (s ∷ []) old new
      (record {
        end = record { front = encode_utf8_all begins.front; parts = begins.bytes; utf8 = begins.utf8 };
        made = ap (normal_form v form) begins.text_is ∙ parts-at v sound form begins.front (chars later) at ∙ ap (λ l. l ++ normal_form v form (chars later)) whole;
      })
      (push ∙ ap (λ l. old ++ l) (sym (append-nil (encode_utf8 s))))

  -- ---- a syllable is a boundary

  module _ (leading_consonants : composes form ≡ true → LeadingAreBoundaries v form) where
    -- what decomposes to a list that a leading consonant begins is a boundary
    leading-boundary : (c first : ℕ) (rest : List ℕ) → is_among 0x1100 19 first ≡ true → IsFullDecomposition v (is_compat form) (c ∷ []) (first ∷ rest) → IsBoundary v form c
    leading-boundary c first rest among full =
        let range = among_bounds 0x1100 19 first among in
        record {
          first = first;
          rest = rest;
          decomposes = full;
          starter = jamo-starter v on first (leading_jamo first among);
          never_second = λ composing.
              let at = leading_consonants composing first (omega (arith, range)) (omega (arith, range)) in
              let whole : at.first ∷ at.rest ≡ first ∷ [] = full_of-only v (is_compat form) sound.shallow first (at.first ∷ at.rest) at.decomposes ∙ full_of-jamo v (is_compat form) sound on first (leading_jamo first among) in
              subst (λ (d : ℕ). (a p : ℕ) → ¬ (IsCompositeOf v a d p)) (ap (λ l. get_or l 0 0) whole) (at.never_second composing);
        }

    pub syllable-begins : (text later : List ℕ) (s : ℕ) → BeginsWithSyllable text later s → BeginsAtBoundary v form (chars text)
    syllable-begins text later s begins =
        let compat = is_compat form in
        let is = unfolds v sound on compat s begins.syllable in
        elim begins.spells [
          | inl jamo ↦
              let parts : begins.front ≡ is.first ∷ is.rest = jamo ∙ sym (full_of-syllable v compat sound on s begins.syllable) ∙ is.full in
              let itself = subst (IsFullDecomposition v compat (is.first ∷ [])) (full_of-jamo v compat sound on is.first (leading_jamo is.first is.is_leading)) (IsFullDecomposition-full_of v compat sound.shallow is.first) in
              subst (BeginsAtBoundary v form) (sym (begins.text_is ∙ ap (λ l. l ++ chars later) parts)) (leading-boundary is.first is.first [] is.is_leading itself)
          | inr itself ↦
              let full = subst (IsFullDecomposition v compat (s ∷ [])) is.full (IsFullDecomposition-full_of v compat sound.shallow s) in
              subst (BeginsAtBoundary v form) (sym (begins.text_is ∙ ap (λ l. l ++ chars later) itself)) (leading-boundary s is.first is.rest is.is_leading full)
        ]

-- ---- ASCII that is copied alone

pub ascii-alone : (v : VersionData) (sound : IsSound v) (form : Form) → ((c : ℕ) → c < 128 → is_assigned v c ≡ true) → ((c : ℕ) → c < 128 → IsYesStarter v form c) → AsciiIsCopiedAlone v form
ascii-alone v sound form assigned stays c lt =
    record {
      assigned = assigned c lt;
      boundary = (stays c lt).boundary;
      stands = λ back utf8 at.
          IsCopied-at v sound form (encode_utf8 c ++ back) (encode_utf8 c) back (c ∷ []) 0 refl utf8 (sym (append-nil (encode_utf8 c)))
          (chars-append (encode_utf8 c) back (c ∷ [], (and_from _ _ (low_scalar c (omega (arith, lt))) refl, append-nil (encode_utf8 c))) ∙ ap (λ l. l ++ chars back) (ap chars (sym (append-nil (encode_utf8 c))) ∙ chars-encodes (c ∷ []) (and_from _ _ (low_scalar c (omega (arith, lt))) refl)))
          (0, inl (stays c lt), refl) at;
    }

-- the text that it begins is copied, where a syllable follows
pub space-copied : (v : VersionData) (form : Form) (text later : List ℕ) (c : ℕ) → IsCopiedAlone v form c → IsUtf8 text → text ≡ encode_utf8 c ++ later → BeginsAtBoundary v form (chars later) → IsCopied v form text (encode_utf8 c) later
space-copied v form text later c alone utf8 parts at = subst (λ l. IsCopied v form l (encode_utf8 c) later) (sym parts) (alone.stands later (IsUtf8-past_char text later c utf8 parts) at)

-- it is a boundary
pub space-begins : (v : VersionData) (form : Form) (text later : List ℕ) (c : ℕ) → IsCopiedAlone v form c → IsUtf8 text → text ≡ encode_utf8 c ++ later → BeginsAtBoundary v form (chars text)
space-begins v form text later c alone utf8 parts = subst (BeginsAtBoundary v form) (sym (chars_past_char text later c utf8 parts)) alone.boundary

-- what the checks of functions cite
pub ruleset syllable_front_answers = (begins-jamo, begins-precomposed, begins_with_jamo, jamo-boundary)
