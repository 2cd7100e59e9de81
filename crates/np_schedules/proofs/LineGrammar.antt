-- The first two lines of a schedule say what the grammar says.
use Rattle.std.proofs.Common.{◌≡◌, ℕ, ◌<◌, ◌≤◌, Bool, true, false, ◌&&◌, cond, leb, ltb, List, [], ◌∷◌, length, Option, Some, None, option_map, codes, refl, sym, ap, subst, ◌∙◌, arith}
use Rattle.std.specs.Char.{is_ascii_digit}
use Rattle.std.specs.List.{All, AllZip}
use Rattle.std.specs.Option.{option_and_then}
use Rattle.std.specs.Str.{bytes_eq, all_ascii_digits}
use Rattle.std.specs.Str.Parse.{digits_value}
use Rattle.std.proofs.lemmas.Bool.{cond-true, and_from, and_parts, leb-true, le-leb, ltb-true, lt-ltb}
use Rattle.std.proofs.lemmas.List.Elements.{All-nil, All-cons, All-head, All-tail}
use Rattle.std.proofs.lemmas.Slice.Eq.{bytes_eq-Decides}
use Rattle.np_code_points.specs.Words.{AreWords}
use Rattle.np_code_points.specs.declared.words.Dividers.TheVariants.{Blanks}
use Rattle.np_code_points.specs.inside.WordCuts.{words_of}
use Rattle.np_code_points.specs.inside.WordValues.{if_short, values_of}
use Rattle.np_code_points.proofs.ValueGrammar.{short_from, from_short, zip_from, from_zip}
use Rattle.np_code_points.proofs.WordGrammar.{are_words, only_words}
use Rattle.np_schedules.specs.ScheduleLines.{IsNumber, IsNumberBelow, IsRoomLine, IsNodesLine}
use Rattle.np_schedules.specs.inside.LineValues.{is_number, number_value, if_below, below_value, room_value, starts_value}

-- What gave a value.
pub record Gave {A B : Type 0} (f : A → Option B) (o : Option A) (y : B) : Type 0 where
  pub from : A
  pub was : o ≡ Some from
  pub gives : f from ≡ Some y

pub gave : {A B : Type 0} (f : A → Option B) (o : Option A) (y : B) → option_and_then f o ≡ Some y → Gave f o y
gave f None y h = absurd (cc)
gave f (Some x) y h = record { from = x; was = refl; gives = h }

pub record Maps {A B : Type 0} (f : A → B) (o : Option A) (y : B) : Type 0 where
  pub from : A
  pub was : o ≡ Some from
  pub gives : f from ≡ y

pub maps : {A B : Type 0} (f : A → B) (o : Option A) (y : B) → option_map f o ≡ Some y → Maps f o y
maps f None y h = absurd (cc)
maps f (Some x) y h = record { from = x; was = refl; gives = cc }

pub tested : {A : Type 0} (t : Bool) (o : Option A) (y : A) → cond t o None ≡ Some y → (t ≡ true) × (o ≡ Some y)
tested true o y h = (refl, h)
tested false o y h = absurd (cc)

pub same_bytes : (a b : List ℕ) → bytes_eq a b ≡ true → a ≡ b
same_bytes a b = let d = bytes_eq-Decides a b in d.0

-- A number.
digit_test : (b : ℕ) → is_ascii_digit b ≡ true → (48 ≤ b) × (b ≤ 57)
digit_test b h = let both = and_parts (leb 48 b) (leb b 57) h in (leb-true 48 b both.0, leb-true b 57 both.1)

test_digit : (b : ℕ) → (48 ≤ b) × (b ≤ 57) → is_ascii_digit b ≡ true
test_digit b h = and_from (leb 48 b) (leb b 57) (le-leb 48 b h.0) (le-leb b 57 h.1)

abbrev IsDigit : ℕ → Type 0
IsDigit b = (48 ≤ b) × (b ≤ 57)

digits_test : (word : List ℕ) → all_ascii_digits word ≡ true → All IsDigit word
digits_test [] h = All-nil IsDigit
digits_test (b ∷ word) h =
    let both = and_parts (is_ascii_digit b) (all_ascii_digits word) h in
    All-cons IsDigit b word (digit_test b both.0) (digits_test word both.1)

test_digits : (word : List ℕ) → All IsDigit word → all_ascii_digits word ≡ true
test_digits [] h = refl
test_digits (b ∷ word) h =
    and_from (is_ascii_digit b) (all_ascii_digits word) (test_digit b (All-head IsDigit b word h)) (test_digits word (All-tail IsDigit b word h))

pub number_said : (word : List ℕ) (number : ℕ) → number_value word ≡ Some number → IsNumber word number
unfolding number_value
number_said word number h =
    let is = tested (is_number word) (Some (digits_value 10 word)) number h in
    let both = and_parts (leb 1 (length word) && leb (length word) 9) (all_ascii_digits word) is.0 in
    let long = and_parts (leb 1 (length word)) (leb (length word) 9) both.0 in
    record {
      some = leb-true 1 (length word) long.0;
      few = leb-true (length word) 9 long.1;
      digits = digits_test word both.1;
      value = let e = is.1 in cc;
    }

pub said_number : (word : List ℕ) (number : ℕ) → IsNumber word number → number_value word ≡ Some number
unfolding number_value
said_number word number h =
    cond-true (is_number word) (Some (digits_value 10 word)) None
    (and_from (leb 1 (length word) && leb (length word) 9) (all_ascii_digits word)
    (and_from (leb 1 (length word)) (leb (length word) 9) (le-leb 1 (length word) h.some) (le-leb (length word) 9 h.few))
    (test_digits word h.digits))
    ∙ ap Some (sym h.value)

pub below_said : (bound : ℕ) (word : List ℕ) (number : ℕ) → below_value bound word ≡ Some number → IsNumberBelow bound word number
unfolding below_value
below_said bound word number h =
    let g = gave (if_below bound) (number_value word) number h in
    let is = tested (ltb g.from bound) (Some g.from) number g.gives in
    let same : g.from ≡ number = let e = is.1 in cc in
    (number_said word number (g.was ∙ ap Some same), subst (λ n. n < bound) same (ltb-true g.from bound is.0))

pub said_below : (bound : ℕ) (word : List ℕ) (number : ℕ) → IsNumberBelow bound word number → below_value bound word ≡ Some number
unfolding below_value
said_below bound word number h =
    ap (option_and_then (if_below bound)) (said_number word number h.0)
    ∙ cond-true (ltb number bound) (Some number) None (lt-ltb number bound h.1)

-- The line of the room.
record RoomWords (words : List (List ℕ)) (room : ℕ) : Type 0 where
  word : List ℕ
  are : words ≡ codes "room" ∷ word ∷ []
  is : IsNumberBelow 65537 word room

room_words : (words : List (List ℕ)) (room : ℕ) → room_value words ≡ Some room → RoomWords words room
unfolding room_value
room_words [] room h = absurd (cc)
room_words (name ∷ []) room h = absurd (cc)
room_words (name ∷ word ∷ []) room h =
    let is = tested (bytes_eq name (codes "room")) (below_value 65537 word) room h in
    record { word = word; are = ap (λ n. n ∷ word ∷ []) (same_bytes name (codes "room") is.0); is = below_said 65537 word room is.1 }
room_words (name ∷ word ∷ more ∷ words) room h = absurd (cc)

pub room_said : (text : List ℕ) (room : ℕ) → room_value (words_of Blanks text) ≡ Some room → IsRoomLine text room
room_said text room h =
    let said = room_words (words_of Blanks text) room h in
    record {
      word = said.word;
      are = subst (AreWords Blanks text) said.are (are_words Blanks text);
      number = said.is.0;
      most = let l = said.is.1 in omega (arith, l);
    }

words_room : (word : List ℕ) (room : ℕ) → IsNumberBelow 65537 word room → room_value (codes "room" ∷ word ∷ []) ≡ Some room
unfolding room_value
words_room word room h = said_below 65537 word room h

pub said_room : (text : List ℕ) (room : ℕ) → IsRoomLine text room → room_value (words_of Blanks text) ≡ Some room
said_room text room h =
    ap room_value (sym (only_words Blanks text _ h.are)) ∙ words_room h.word room (h.number, let l = h.most in omega (arith, l))

-- The line of the nodes.
record NodesWords (versions : ℕ) (words : List (List ℕ)) (starts : List ℕ) : Type 0 where
  places : List (List ℕ)
  are : words ≡ codes "nodes" ∷ places
  is : AllZip (IsNumberBelow versions) places starts
  some : 1 ≤ length starts
  few : length starts ≤ 64

nodes_words : (versions : ℕ) (words : List (List ℕ)) (starts : List ℕ) → starts_value versions words ≡ Some starts → NodesWords versions words starts
unfolding starts_value
nodes_words versions [] starts h = absurd (cc)
nodes_words versions (name ∷ places) starts h =
    let all = values_of (below_value versions) places in
    let is = tested (bytes_eq name (codes "nodes")) (option_and_then (if_short 64) all) starts h in
    let short = short_from 64 all starts is.1 in
    record {
      places = places;
      are = ap (λ n. n ∷ places) (same_bytes name (codes "nodes") is.0);
      is = zip_from (below_value versions) (IsNumberBelow versions) (below_said versions) places starts short.0;
      some = short.1;
      few = short.2;
    }

pub starts_said : (versions : ℕ) (text starts : List ℕ) → starts_value versions (words_of Blanks text) ≡ Some starts → IsNodesLine versions text starts
starts_said versions text starts h =
    let said = nodes_words versions (words_of Blanks text) starts h in
    record {
      words = said.places;
      are = subst (AreWords Blanks text) said.are (are_words Blanks text);
      numbers = said.is;
      some = said.some;
      few = said.few;
    }

words_nodes : (versions : ℕ) (places : List (List ℕ)) (starts : List ℕ) → AllZip (IsNumberBelow versions) places starts → 1 ≤ length starts → length starts ≤ 64 → starts_value versions (codes "nodes" ∷ places) ≡ Some starts
unfolding starts_value
words_nodes versions places starts h some few =
    ap (option_and_then (if_short 64)) (from_zip (below_value versions) (IsNumberBelow versions) (said_below versions) places starts h) ∙ from_short 64 starts some few

pub said_starts : (versions : ℕ) (text starts : List ℕ) → IsNodesLine versions text starts → starts_value versions (words_of Blanks text) ≡ Some starts
said_starts versions text starts h =
    ap (starts_value versions) (sym (only_words Blanks text _ h.are)) ∙ words_nodes versions h.words starts h.numbers h.some h.few
