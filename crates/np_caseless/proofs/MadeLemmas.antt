-- A text that is made into its key where it stands goes on.
use Rattle.std.proofs.Common.{◌≡◌, ◌≢◌, ◌&&◌, ℕ, zero, suc, ◌+◌, ◌-◌, ◌<◌, ◌≤◌, ◌%◌, ◌/◌, Bool, true, false, List, [], ◌∷◌, ◌++◌, Option, Some, None, IfSome, drop, encode_utf8, get_or, length, map, take, IsUtf8, refl, sym, ap, subst, ◌∙◌, inl, inr, arith}
use Rattle.std.proofs.Math.Seq.{take-add}
use Rattle.std.proofs.lemmas.List.{drop-drop, drop-map, drop_more, get_or-drop, get_or_past, length-drop, length-take-le, map-append, take_at, take_more}
use Rattle.std.proofs.lemmas.Str.{IsCharBoundary-start}
use Rattle.std.proofs.lemmas.Str.Ascii.{lowercase_ascii}
use Rattle.std.proofs.lemmas.Nat.Bits.{bit_at-zero}
use Rattle.std.specs.Char.{to_ascii_lowercase}
use Rattle.std.specs.Int.{bit_at}
use Rattle.np_forms.proofs.TextLemmas.{IsRead-next, IsRead-start}
use Rattle.np_versions.proofs.Words.{cases_lt}
use Rattle.np_caseless.specs.inside.ImageTables.{IsMarked}
use Rattle.np_caseless.specs.inside.SimpleImages.{IsCodeAt, LowerAscii, bytes_of, listed}
use Rattle.np_caseless.specs.inside.SimpleTexts.{AreLeads, AreMade, AreStandIns, IsStandIn}
use Rattle.np_caseless.specs.declared.simple_texts.KnownImages.{KnownImages}
use Rattle.np_caseless.proofs.CharacterLemmas.{encoded_few, lower_encoded, one_at, several_high}
use Rattle.np_caseless.proofs.StandInLemmas.{looser, looser_one, stand_more}

and_first : (a b : Bool) → a && b ≡ true → a ≡ true
and_first true b t = refl
and_first false b t = t

and_second : (a b : Bool) → a && b ≡ true → b ≡ true
and_second true b t = t
and_second false b t = let bad : false ≡ true = t in absurd (cc)

and_whole : (a : Bool) → a && true ≡ a
and_whole true = refl
and_whole false = refl

and_none : (a : Bool) → a && false ≡ false
and_none true = refl
and_none false = refl

pub if_some : {A : Type 0} {P Q : A → Type 0} (o : Option A) → ((a : A) → P a → Q a) → IfSome o P → IfSome o Q
if_some (Some a) from h = from a h
if_some None from h = tt

-- a byte that isn't 0 stands in the text
lead_within : (text : List ℕ) (i : ℕ) → 192 ≤ get_or text i 0 → i < length text
lead_within text i lead =
    elim (cases_lt i (length text)) [
      | inl less ↦ less
      | inr more ↦ absurd (omega (arith, lead, get_or_past text i 0 more))
    ]

module _ (known : KnownImages) (text : List ℕ) where
  -- nothing was made yet
  pub made_none : (room : List ℕ) → IsUtf8 text → room ≡ map to_ascii_lowercase text → length room ≡ length text → AreMade known text room 0 true
  made_none room utf8 is size = record {
    within = omega arith;
    size = size;
    behind = is;
    read = [];
    reads = IsRead-start text utf8;
    made = refl;
  }

  -- one more code point, for which a piece was written where it stands
  made_more : (at count code : ℕ) (apart more : Bool) (before after piece : List ℕ) → IsCodeAt text at count code → IsStandIn known more code piece
      → take (at + count) after ≡ take at before ++ piece → drop (at + count) after ≡ drop (at + count) before → length after ≡ length before
      → AreMade known text before at apart → AreMade known text after (at + count) (apart && more)
  made_more at count code apart more before after piece here stands written behind same m =
      let both = apart && more in
      let old = looser known apart both m.read (take at before) (and_first apart more) m.made in
      let one = looser_piece in
      record {
        within = here.long;
        size = same ∙ m.size;
        behind = behind ∙ later;
        read = m.read ++ code ∷ [];
        reads = IsRead-next text (drop at text) code (drop (at + count) text) m.read here.begins m.reads;
        made = subst (λ l. AreStandIns known both (m.read ++ code ∷ []) l) (sym written) (stand_more known both m.read (take at before) piece code old one);
      }
    where
      later : drop (at + count) before ≡ map to_ascii_lowercase (drop (at + count) text)
      later =
          sym (drop-drop count at before)
          ∙ ap (drop count) m.behind
          ∙ drop-map to_ascii_lowercase count (drop at text)
          ∙ ap (map to_ascii_lowercase) (drop-drop count at text)

      looser_piece : IsStandIn known (apart && more) code piece
      looser_piece = looser_one known more (apart && more) code piece (and_second apart more) stands

  -- its image
  pub made_image : (at count code : ℕ) (apart : Bool) (before after : List ℕ) → IsCodeAt text at count code → code < length known.simple.now
      → length known.simple.now ≡ 0x3000 → (listed known.simple.now code).bytes ≢ 0
      → take (at + count) after ≡ take at before ++ bytes_of count (listed known.simple.now code)
      → drop (at + count) after ≡ drop (at + count) before → length after ≡ length before
      → AreMade known text before at apart → AreMade known text after (at + count) apart
  made_image at count code apart before after here within size is_known written behind same m =
      let image = listed known.simple.now code in
      let few : count ≤ 3 = omega (arith, here.size, encoded_few code (omega (arith, within, size))) in
      subst (λ (a : Bool). AreMade known text after (at + count) a) (and_whole apart)
      (made_more at count code apart true before after (bytes_of count image) here
      (record {
        size = length-take-le count (image.bytes % 256 ∷ image.bytes / 256 % 256 ∷ image.bytes / 65536 % 256 ∷ []) few ∙ sym here.size;
        is = inl (record { within = within; known = is_known; bytes = ap (λ n. bytes_of n image) (sym here.size) });
      })
      written behind same m)

  -- itself, which stands there
  pub made_kept : (at count code : ℕ) (apart : Bool) (room : List ℕ) → IsCodeAt text at count code → 1 < count → IsMarked known.own.now code
      → AreMade known text room at apart → AreMade known text room (at + count) false
  made_kept at count code apart room here several marked m =
      let there : take count (drop at room) ≡ encode_utf8 code =
      ap (take count) (m.behind ∙ ap (map to_ascii_lowercase) here.begins ∙ map-append to_ascii_lowercase (encode_utf8 code) (drop (at + count) text))
      ∙ take_at (map to_ascii_lowercase (encode_utf8 code)) (map to_ascii_lowercase (drop (at + count) text)) count
      (ap length (lower_encoded code high) ∙ here.size)
      ∙ lower_encoded code high in
      subst (λ (a : Bool). AreMade known text room (at + count) a) (and_none apart)
      (made_more at count code apart false room room (encode_utf8 code) here
      (record { size = refl; is = inr (refl, record { marked = marked; bytes = refl }) })
      (take-add at count room ∙ ap (λ l. take at room ++ l) there) refl refl m)
    where
      high : 128 ≤ code
      high = several_high code (omega (arith, here.size, several))

  module _ (lowers : LowerAscii known.simple.now) (size : length known.simple.now ≡ 0x3000) where
    -- a character of ASCII, whose lowercase stands there
    made_byte : (at : ℕ) (apart : Bool) (room : List ℕ) → at < length text → get_or text at 0 < 192 → AreMade known text room at apart
        → AreMade known text room (at + 1) apart
    made_byte at apart room within low m =
        let b = get_or text at 0 in
        let first : get_or (drop at text) 0 0 ≡ b = get_or-drop at text 0 0 ∙ ap (λ n. get_or text n 0) (omega arith) in
        let starts = (IsCharBoundary-start (drop at text) m.reads.utf8).1 in
        let ascii : b < 128 =
        elim (cases_lt b 128) [
          | inl less ↦ less
          | inr more ↦ absurd (omega (arith, low, first, starts (omega (arith, length-drop at text, within)) (omega (arith, more, first))))
        ] in
        let here : IsCodeAt text at 1 b = one_at text at m.reads.utf8 within ascii in
        let there : get_or room at 0 ≡ to_ascii_lowercase b =
        ap (λ n. get_or room n 0) (omega arith) ∙ sym (get_or-drop at room 0 0)
        ∙ ap (λ l. get_or l 0 0) (m.behind ∙ ap (map to_ascii_lowercase) (drop_more text at 0 within)) in
        let image = listed known.simple.now b in
        let is = lowers b ascii in
        let small = lowercase_ascii b ascii in
        let byte : bytes_of 1 image ≡ get_or room at 0 ∷ [] = ap (λ x. x ∷ []) (omega (arith, is, small, there)) in
        let written : take (at + 1) room ≡ take at room ++ bytes_of 1 image =
        take_more room at 0 (omega (arith, m.size, within)) ∙ ap (λ l. take at room ++ l) (sym byte) in
        made_image at 1 b apart room room here (omega (arith, ascii, size)) size (λ none. omega (arith, is, none)) written refl refl m

    -- those up to the next byte that begins a character of several bytes
    pub made_bytes : (n at : ℕ) (apart : Bool) (room : List ℕ) → at + n ≤ length text → ((k : ℕ) → k < n → get_or text (at + k) 0 < 192)
        → AreMade known text room at apart → AreMade known text room (at + n) apart
    made_bytes zero at apart room within low m = subst (λ k. AreMade known text room k apart) (omega arith) m
    made_bytes (suc n) at apart room within low m =
        let one = made_byte at apart room (omega (arith, within)) (subst (λ k. get_or text k 0 < 192) (omega arith) (low 0 (omega arith))) m in
        let moved : (k : ℕ) → k < n → get_or text (at + 1 + k) 0 < 192 =
        λ k less. subst (λ i. get_or text i 0 < 192) (omega arith) (low (k + 1) (omega (arith, less))) in
        subst (λ k. AreMade known text room k apart) (omega arith) (made_bytes n (at + 1) apart room (omega (arith, within)) moved one)

    -- those up to the next that is marked to begin one
    pub reached : (end from to left t : ℕ) (apart : Bool) (room : List ℕ) → AreLeads text end from to left → bit_at left t ≡ 1
        → ((k : ℕ) → k < t → bit_at left k ≡ 0) → from ≤ end → AreMade known text room end apart → AreMade known text room (from + t) apart
    reached end from to left t apart room leads one first later m =
        let within = lead_within text (from + t) (leads.set t one) in
        let all : end + (from + t - end) ≡ from + t = omega (arith, leads.behind t one) in
        subst (λ k. AreMade known text room k apart) all
        (made_bytes (from + t - end) end apart room (omega (arith, all, within)) (low within) m)
      where
        low : from + t < length text → (k : ℕ) → k < from + t - end → get_or text (end + k) 0 < 192
        low within k less =
            let place : from + (end + k - from) ≡ end + k = omega (arith, later) in
            let clear = leads.clear (end + k - from) (first (end + k - from) (omega (arith, less, later))) (omega (arith, place))
            (omega (arith, place, less, leads.before t one)) in
            subst (λ n. get_or text n 0 < 192) place clear

    -- where none is any more, up to a place
    pub reached_all : (end from to left last : ℕ) (apart : Bool) (room : List ℕ) → AreLeads text end from to left → left ≡ 0 → from ≤ end → end ≤ last
        → last ≤ length text → ((k : ℕ) → end + k < last → end + k < to) → AreMade known text room end apart → AreMade known text room last apart
    reached_all end from to left last apart room leads none later behind within below m =
        let all : end + (last - end) ≡ last = omega (arith, behind) in
        subst (λ k. AreMade known text room k apart) all
        (made_bytes (last - end) end apart room (omega (arith, all, within)) low m)
      where
        low : (k : ℕ) → k < last - end → get_or text (end + k) 0 < 192
        low k less =
            let place : from + (end + k - from) ≡ end + k = omega (arith, later) in
            let clear = leads.clear (end + k - from) (ap (λ b. bit_at b (end + k - from)) none ∙ bit_at-zero (end + k - from)) (omega (arith, place))
            (omega (arith, place, below k (omega (arith, less, behind)))) in
            subst (λ n. get_or text n 0 < 192) place clear
