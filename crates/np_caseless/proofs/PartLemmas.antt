-- The key of each part of a text that was made into its key where it stands.
use Rattle.std.proofs.Common.{◌≡◌, ℕ, ◌+◌, ◌-◌, ◌≤◌, Bool, true, List, [], ◌++◌, append_assoc, chars, drop, encode_utf8_all, length, length-append, take, IsUtf8, sym, ap, ap₂, subst, ◌∙◌, arith}
use Rattle.std.proofs.Math.Seq.{drop-length, take-add, take-length}
use Rattle.std.proofs.lemmas.List.{append-nil, drop_at, length-drop, length-take-le, nil_from_length, take_all, take_at, take-append-drop, take-take}
use Rattle.std.proofs.lemmas.Str.{chars-append, chars_from_encodes, encodes-chars, IsUtf8-nil}
use Rattle.np_code_points.specs.Forms.{is_compat}
use Rattle.np_code_points.specs.declared.forms.Form.{Form}
use Rattle.np_forms.specs.Parts.{IsEachPartStable}
use Rattle.np_forms.proofs.CopyLemmas.{IsUtf8-front}
use Rattle.np_caseless.specs.Conditions.{IsSoundFolding}
use Rattle.np_caseless.specs.Folded.{FoldedVersion}
use Rattle.np_caseless.specs.SimpleKeys.{IsEachPartKey, IsSimpleKey}
use Rattle.np_caseless.specs.inside.SimpleImages.{AreSimple}
use Rattle.np_caseless.specs.inside.SimpleTexts.{AreMade, AreOwn, AreStandIns, IsMadeOfFront}
use Rattle.np_caseless.specs.declared.simple_texts.KnownImages.{KnownImages}
use Rattle.np_caseless.proofs.SimpleLemmas.{apart_key, front_key, simple_all, simple_start}
use Rattle.np_caseless.proofs.StandInLemmas.{BothStandIn, stand_size, stand_split}

module _ (v : FoldedVersion) (sound : IsSoundFolding v) (form : Form) (known : KnownImages) (simple : AreSimple v form known.simple.now)
    (own : AreOwn v (is_compat form) known.own.now) where
  -- what stands in for the code points of a text was made of it
  whole_made : (apart : Bool) (text made : List ℕ) → IsUtf8 text → AreStandIns known apart (chars text) made → IsMadeOfFront v form apart text [] made
  whole_made apart text made utf8 all =
      simple_all v sound form known apart text text [] [] made (chars text) simple own all utf8
      (sym (append-nil (encode_utf8_all (chars text)) ∙ encodes-chars text utf8))
      (simple_start v sound form apart text utf8)

  -- which is all of it
  all_made : (apart : Bool) (text made : List ℕ) → IsMadeOfFront v form apart text [] made
      → IsMadeOfFront v form apart text (drop (length text) text) made
  all_made apart text made m = subst (λ l. IsMadeOfFront v form apart text l made) (sym (drop-length text)) m

  -- A part of a front of a text.
  module _ (text room : List ℕ) (count : ℕ) (apart : Bool) (utf8 : IsUtf8 text) (m : AreMade known text room count apart) (n : ℕ) (inside : n ≤ count)
      (before part after : List ℕ) (is : take n text ≡ before ++ (part ++ after)) (of_before : IsUtf8 before) (of_part : IsUtf8 part) where
    abbrev later : List ℕ
    later = after ++ drop n (take count text)

    whole : take count text ≡ before ++ (part ++ later)
    whole =
        sym (take-append-drop n (take count text))
        ∙ ap (λ l. l ++ drop n (take count text)) (take-take n count text inside ∙ is)
        ∙ append_assoc before (part ++ after) (drop n (take count text))
        ∙ ap (λ l. before ++ l) (append_assoc part after (drop n (take count text)))

    codes : m.read ≡ chars before ++ (chars part ++ chars later)
    codes =
        let xs = encode_utf8_all m.read in
        let size : count ≡ length xs = omega (arith, m.within, ap length m.reads.bytes, length-append xs (drop count text), length-drop count text) in
        let front : take count text ≡ xs = ap (take count) m.reads.bytes ∙ take_at xs (drop count text) count (sym size) in
        let of_front : IsUtf8 (take count text) = subst IsUtf8 (sym front) (IsUtf8-front text xs (drop count text) m.reads.bytes utf8 m.reads.utf8) in
        chars_from_encodes m.read (take count text) of_front (sym front)
        ∙ ap chars whole
        ∙ chars-append before (part ++ later) of_before
        ∙ ap (λ l. chars before ++ l) (chars-append part later of_part)

    halves : BothStandIn known apart (chars before) (chars part ++ chars later) (take count room)
    halves = stand_split known apart (chars before) (chars part ++ chars later) (take count room)
        (subst (λ l. AreStandIns known apart l (take count room)) codes m.made)

    parts : BothStandIn known apart (chars part) (chars later) halves.1
    parts = stand_split known apart (chars part) (chars later) halves.1 halves.4

    abbrev one : List ℕ
    one = halves.0

    abbrev two : List ℕ
    two = parts.0

    size_one : length one ≡ length before
    size_one = stand_size known apart (chars before) one halves.3 ∙ ap length (encodes-chars before of_before)

    size_two : length two ≡ length part
    size_two = stand_size known apart (chars part) two parts.3 ∙ ap length (encodes-chars part of_part)

    room_is : room ≡ one ++ (two ++ (parts.1 ++ drop count room))
    room_is =
        sym (take-append-drop count room)
        ∙ ap (λ l. l ++ drop count room) (halves.2 ∙ ap (λ l. one ++ l) parts.2)
        ∙ append_assoc one (two ++ parts.1) (drop count room)
        ∙ ap (λ l. one ++ l) (append_assoc two parts.1 (drop count room))

    first_is : take (length before) room ≡ one
    first_is = ap (take (length before)) room_is ∙ take_at one (two ++ (parts.1 ++ drop count room)) (length before) size_one

    key_is : take (length part) (drop (length before) room) ≡ two
    key_is =
        ap (λ l. take (length part) (drop (length before) l)) room_is
        ∙ ap (take (length part)) (drop_at one (two ++ (parts.1 ++ drop count room)) (length before) size_one)
        ∙ take_at two (parts.1 ++ drop count room) (length part) size_two

    made_one : IsMadeOfFront v form apart before [] one
    made_one = whole_made apart before one of_before halves.3

    made_two : IsMadeOfFront v form apart part [] two
    made_two = whole_made apart part two of_part parts.3

    as_key : IsSimpleKey v form (take (length part) part) two → IsSimpleKey v form part (take (length part) (drop (length before) room))
    as_key key = subst (λ l. IsSimpleKey v form part l) (sym key_is) (subst (λ l. IsSimpleKey v form l two) (take-length part) key)

    pub part_apart : apart ≡ true → IsSimpleKey v form part (take (length part) (drop (length before) room))
    part_apart t =
        as_key (apart_key v sound form part two (length part) of_part (omega arith)
        (subst (λ (b : Bool). IsMadeOfFront v form b part (drop (length part) part) two) t (all_made apart part two made_two)))

    pub part_stable : (s : ℕ) → n ≤ s → s ≤ count → IsEachPartStable v.version form (chars (take s room))
        → IsSimpleKey v form part (take (length part) (drop (length before) room))
    part_stable s above below each =
        let fits : length before + length part ≤ s =
        omega (
          arith,
          above,
          inside,
          m.within,
          ap length is,
          length-append before (part ++ after),
          length-append part after,
          length-take-le n text (omega (arith, inside, m.within)),
        ) in
        let r = s - (length before + length part) in
        let rest = take r (drop (length part) (drop (length before) room)) in
        let total : s ≡ length before + (length part + r) = omega (arith, fits) in
        let cut : take s room ≡ one ++ (two ++ rest) =
        ap (λ k. take k room) total
        ∙ take-add (length before) (length part + r) room
        ∙ ap₂ (λ a b. a ++ b) first_is (take-add (length part) r (drop (length before) room) ∙ ap (λ l. l ++ rest) key_is) in
        let listed : chars (take s room) ≡ chars one ++ (chars two ++ chars rest) =
        ap chars cut ∙ chars-append one (two ++ rest) made_one.utf8 ∙ ap (λ l. chars one ++ l) (chars-append two rest made_two.utf8) in
        let both = each (chars one) (chars two) (chars rest) listed in
        as_key (front_key v sound form apart part two (length part) of_part (omega arith) (all_made apart part two made_two) both.1 both.0)

  pub each_apart : (text room : List ℕ) (count : ℕ) (apart : Bool) → IsUtf8 text → AreMade known text room count apart → apart ≡ true
      → IsEachPartKey v form (take count text) room
  each_apart text room count apart utf8 m t = λ before part after is of_before of_part.
      part_apart text room count apart utf8 m count (omega arith) before part after is of_before of_part t

  pub each_stable : (text room : List ℕ) (count : ℕ) (apart : Bool) (n s : ℕ) → IsUtf8 text → AreMade known text room count apart
      → n ≤ s → s ≤ count → IsEachPartStable v.version form (chars (take s room)) → IsEachPartKey v form (take n text) room
  each_stable text room count apart n s utf8 m above below each = λ before part after is of_before of_part.
      part_stable text room count apart utf8 m n (omega (arith, above, below)) before part after is of_before of_part s above below each

  -- what was made is a text
  pub made_utf8 : (text room : List ℕ) (count : ℕ) (apart : Bool) → IsUtf8 text → AreMade known text room count apart → IsUtf8 (take count room)
  made_utf8 text room count apart utf8 m =
      let xs = encode_utf8_all m.read in
      (simple_all v sound form known apart text text (drop count text) [] (take count room) m.read simple own m.made utf8 m.reads.bytes
      (simple_start v sound form apart text utf8)).utf8

-- no part has another key than itself where there is nothing
pub none_each : (v : FoldedVersion) → IsSoundFolding v → (form : Form) (room : List ℕ) → IsEachPartKey v form [] room
none_each v sound form room = λ before part after is of_before of_part.
    let none : part ≡ [] =
    nil_from_length part (omega (arith, ap length is, length-append before (part ++ after), length-append part after)) in
    subst (λ l. IsSimpleKey v form l (take (length l) (drop (length before) room))) (sym none)
    (apart_key v sound form [] [] 0 IsUtf8-nil (omega arith) (simple_start v sound form true [] IsUtf8-nil))

-- the key of all of a text
pub whole_key : (v : FoldedVersion) (form : Form) (text room : List ℕ) (n : ℕ) → IsUtf8 text → length text ≤ n → length text ≡ length room
    → IsEachPartKey v form (take n text) room → IsSimpleKey v form text room
whole_key v form text room n utf8 all size each =
    let key = each [] text [] (take_all n text all ∙ sym (append-nil text)) IsUtf8-nil utf8 in
    subst (λ l. IsSimpleKey v form text l) (take_all (length text) room (omega (arith, size))) key
