-- The lowercases that are read are those of the grammar, and no other.
use Rattle.std.proofs.Common.{◌≡◌, ℕ, suc, ◌-◌, ◌+◌, ◌<◌, ◌≤◌, ◌⊎◌, Bool, true, false, ◌||◌, cond, List, [], ◌∷◌, ◌++◌, get_or, Option, Some, None, refl, sym, ap, subst, ◌∙◌, inl, inr, ⊎_elim, arith}
use Rattle.std.specs.List.{All, Contains}
use Rattle.std.proofs.lemmas.Bool.{both_ways, cases_Bool, or_cases, or_left, or_right}
use Rattle.std.proofs.lemmas.List.{append-nil}
use Rattle.std.proofs.lemmas.List.Elements.{All-nil, All-cons, All-head, All-tail}
use Rattle.np_code_points.specs.Codes.{code_value}
use Rattle.np_code_points.specs.Lines.{Numbered, IsDataLine}
use Rattle.np_code_points.specs.Words.{AreWords}
use Rattle.np_code_points.specs.declared.words.Dividers.TheVariants.{Spaces}
use Rattle.np_code_points.specs.inside.LineCuts.{data_lines_in}
use Rattle.np_code_points.specs.inside.WordCuts.{words_of}
use Rattle.np_code_points.proofs.DataLineGrammar.{are_data_lines}
use Rattle.np_code_points.proofs.Elements.{contains_here, contains_more, contains_cases, contains_none}
use Rattle.np_code_points.proofs.WordGrammar.{are_words, only_words}
use Rattle.np_ucd.specs.Fields.{IsFirstName, IsLastName}
use Rattle.np_ucd.specs.inside.FieldReading.{fields_of, opens_range, closes_range}
use Rattle.np_ucd.specs.inside.RecordReading.{field}
use Rattle.np_ucd.proofs.FieldGrammar.{are_fields, only_fields, opens_is, closes_is}
use Rattle.np_ucd.proofs.WalkLemmas.{grown_next}
use Rattle.np_foldings.specs.Lowercases.{Lowercase, field_of, SaysLowercase, IsLowercaseIn, AreLowercases}
use Rattle.np_foldings.specs.inside.LowercaseReading.{word_code, pair_of, said_lower, lowers_of, lowers_in}

-- One field behind another.
pub behind_field : (rest front behind : List ℕ) (at i : ℕ) → i < at → fields_of rest ≡ front ∷ fields_of behind → field (at - i) rest ≡ field (at - (i + 1)) behind
unfolding field
behind_field rest front behind at i lt h =
    let next : at - i ≡ suc (at - (i + 1)) = omega arith in
    ap (λ ps. get_or ps (at - i) []) h ∙ ap (λ n. get_or (front ∷ fields_of behind) n []) next

pub no_field : (rest : List ℕ) (at i : ℕ) → i < at → fields_of rest ≡ rest ∷ [] → field (at - i) rest ≡ []
unfolding field
no_field rest at i lt h =
    let next : at - i ≡ suc (at - (i + 1)) = omega arith in
    ap (λ ps. get_or ps (at - i) []) h ∙ ap (λ n. get_or (rest ∷ []) n []) next

pub field_here : (rest front : List ℕ) (more : List (List ℕ)) (at i : ℕ) → at ≤ i → fields_of rest ≡ front ∷ more → field (at - i) rest ≡ front
unfolding field
field_here rest front more at i over h =
    let none : at - i ≡ 0 = omega arith in
    ap (λ ps. get_or ps (at - i) []) h ∙ ap (λ n. get_or (front ∷ more) n []) none

-- What a record says: nothing, or one lowercase.
abbrev at_pair : ℕ → ℕ → Lowercase
at_pair code lower = record { code = code; lower = lower }

record SaysNone (text : List ℕ) : Type 0 where
  is : said_lower text ≡ []
  none : (pair : Lowercase) → SaysLowercase text pair → ⊥

record SaysOne (text : List ℕ) : Type 0 where
  pair : Lowercase
  is : said_lower text ≡ pair ∷ []
  says : SaysLowercase text pair
  only : (other : Lowercase) → SaysLowercase text other → other ≡ pair

-- what the grammar says of a record is said of its fields
record Read (text : List ℕ) (pair : Lowercase) : Type 0 where
  code : code_value (field 0 text) ≡ Some pair.code
  alone : (opens_range (field 1 text) || closes_range (field 1 text)) ≡ true → ⊥
  lower : word_code (words_of Spaces (field 13 text)) ≡ Some pair.lower

read : (text : List ℕ) (pair : Lowercase) → SaysLowercase text pair → Read text pair
unfolding field
read text pair h =
    let same = only_fields text h.fields h.are in
    let here : (at : ℕ) → field_of h.fields at ≡ get_or (fields_of text) at [] = λ at. ap (λ ps. get_or ps at []) same in
    record {
      code = ap code_value (sym (here 0)) ∙ h.code;
      alone = λ e. h.alone (⊎_elim
          (λ first. inl (subst IsFirstName (sym (here 1)) ((opens_is (field 1 text)).0 first)))
          (λ last. inr (subst IsLastName (sym (here 1)) ((closes_is (field 1 text)).0 last)))
          (or_cases (opens_range (field 1 text)) (closes_range (field 1 text)) e));
      lower = ap word_code (ap (words_of Spaces) (sym (here 13)) ∙ sym (only_words Spaces (field_of h.fields 13) (h.word ∷ []) h.written)) ∙ h.lower;
    }

no_range : (text : List ℕ) → (opens_range (field 1 text) || closes_range (field 1 text)) ≡ false → IsFirstName (field 1 text) ⊎ IsLastName (field 1 text) → ⊥
no_range text e h =
    both_ways (opens_range (field 1 text) || closes_range (field 1 text)) e
    (⊎_elim (λ first. or_left (opens_range (field 1 text)) (closes_range (field 1 text)) ((opens_is (field 1 text)).1 first))
    (λ last. or_right (opens_range (field 1 text)) (closes_range (field 1 text)) ((closes_is (field 1 text)).1 last)) h)

one_word : (text word : List ℕ) (words : List (List ℕ)) → words_of Spaces text ≡ word ∷ words → words ≡ [] → AreWords Spaces text (word ∷ [])
one_word text word words e none = subst (AreWords Spaces text) (e ∙ ap (λ ws. word ∷ ws) none) (are_words Spaces text)

says_of : (text : List ℕ) (code lower : ℕ) (words : List (List ℕ)) → code_value (field 0 text) ≡ Some code → (opens_range (field 1 text) || closes_range (field 1 text)) ≡ false
    → words_of Spaces (field 13 text) ≡ words → word_code words ≡ Some lower → SaysLowercase text (at_pair code lower)
unfolding field
says_of text code lower [] ec er ew el = absurd (cc)
says_of text code lower (word ∷ []) ec er ew el = record {
  fields = fields_of text;
  are = are_fields text;
  code = ec;
  alone = no_range text er;
  word = word;
  written = one_word (field 13 text) word [] ew refl;
  lower = el;
}
says_of text code lower (word ∷ next ∷ words) ec er ew el = absurd (cc)

none_by : (text : List ℕ) → said_lower text ≡ [] → ((pair : Lowercase) → Read text pair → ⊥) → SaysNone text ⊎ SaysOne text
none_by text is not' = inl (record { is = is; none = λ pair says. not' pair (read text pair says) })

lower_step : (text : List ℕ) (code : ℕ) (o : Option ℕ) → code_value (field 0 text) ≡ Some code → (opens_range (field 1 text) || closes_range (field 1 text)) ≡ false
    → word_code (words_of Spaces (field 13 text)) ≡ o → said_lower text ≡ pair_of (Some code) o → SaysNone text ⊎ SaysOne text
lower_step text code None ec er el is = none_by text is (λ pair r. let both = sym el ∙ r.lower in absurd (cc))
lower_step text code (Some lower) ec er el is = inr (record {
  pair = at_pair code lower;
  is = is;
  says = says_of text code lower (words_of Spaces (field 13 text)) ec er refl el;
  only = λ other says.
      let r = read text other says in
      let c : Some code ≡ Some other.code = sym ec ∙ r.code in
      let l : Some lower ≡ Some other.lower = sym el ∙ r.lower in
      let same_code : other.code ≡ code = cc in
      let same_lower : other.lower ≡ lower = cc in
      ap (λ n. at_pair n other.lower) same_code ∙ ap (at_pair code) same_lower;
})

code_step : (text : List ℕ) (o : Option ℕ) → code_value (field 0 text) ≡ o → (opens_range (field 1 text) || closes_range (field 1 text)) ≡ false
    → said_lower text ≡ pair_of o (word_code (words_of Spaces (field 13 text))) → SaysNone text ⊎ SaysOne text
code_step text None ec er is = none_by text is (λ pair r. let both = sym ec ∙ r.code in absurd (cc))
code_step text (Some code) ec er is = lower_step text code (word_code (words_of Spaces (field 13 text))) ec er refl is

range_step : (text : List ℕ) (t : Bool) → (opens_range (field 1 text) || closes_range (field 1 text)) ≡ t
    → said_lower text ≡ cond t [] (pair_of (code_value (field 0 text)) (word_code (words_of Spaces (field 13 text)))) → SaysNone text ⊎ SaysOne text
range_step text true er is = none_by text is (λ pair r. r.alone er)
range_step text false er is = code_step text (code_value (field 0 text)) refl er is

says : (text : List ℕ) → SaysNone text ⊎ SaysOne text
unfolding said_lower
says text = range_step text (opens_range (field 1 text) || closes_range (field 1 text)) refl refl

-- All lines.
each_of : (bytes : List ℕ) (lines : List Numbered) → All (IsDataLine bytes) lines → All (IsLowercaseIn bytes) (lowers_of lines)
unfolding lowers_of
each_of bytes [] h = All-nil (IsLowercaseIn bytes)
each_of bytes (r ∷ lines) h =
    let more = each_of bytes lines (All-tail (IsDataLine bytes) r lines h) in
    ⊎_elim
    (λ (n : SaysNone r.text). subst (λ xs. All (IsLowercaseIn bytes) (xs ++ lowers_of lines)) (sym n.is) more)
    (λ (o : SaysOne r.text). subst (λ xs. All (IsLowercaseIn bytes) (xs ++ lowers_of lines)) (sym o.is)
    (All-cons (IsLowercaseIn bytes) o.pair (lowers_of lines) (r, All-head (IsDataLine bytes) r lines h, o.says) more))
    (says r.text)

all_of : (lines : List Numbered) (r : Numbered) (pair : Lowercase) → Contains lines r → SaysLowercase r.text pair → Contains (lowers_of lines) pair
unfolding lowers_of
all_of [] r pair in' h = absurd (contains_none r in')
all_of (s ∷ lines) r pair in' h =
    ⊎_elim
    (λ (n : SaysNone s.text). subst (λ xs. Contains (xs ++ lowers_of lines) pair) (sym n.is)
    (⊎_elim (λ same. absurd (n.none pair (subst (λ (k : Numbered). SaysLowercase k.text pair) (sym same) h)))
    (λ more. all_of lines r pair more h) (contains_cases s r lines in')))
    (λ (o : SaysOne s.text). subst (λ xs. Contains (xs ++ lowers_of lines) pair) (sym o.is)
    (⊎_elim
    (λ same. subst (Contains (o.pair ∷ lowers_of lines)) (sym (o.only pair (subst (λ (k : Numbered). SaysLowercase k.text pair) (sym same) h))) (contains_here o.pair (lowers_of lines)))
    (λ more. contains_more o.pair pair (lowers_of lines) (all_of lines r pair more h)) (contains_cases s r lines in')))
    (says s.text)

are_lowers : (bytes : List ℕ) → AreLowercases bytes (lowers_in bytes)
unfolding lowers_in
are_lowers bytes = record {
  each = each_of bytes (data_lines_in bytes) (are_data_lines bytes).each;
  all = λ pair h. all_of (data_lines_in bytes) h.0 pair ((are_data_lines bytes).all h.0 h.1) h.2;
}

-- How far the lines are read.
pub record AreTaken (bytes : List ℕ) (lines : List Numbered) (done : List Lowercase) : Type 0 where
  pub total : done ++ lowers_of lines ≡ lowers_in bytes

pub taken_begin : {bytes : List ℕ} {lines : List Numbered} {done : List Lowercase} → lines ≡ data_lines_in bytes → done ≡ [] → AreTaken bytes lines done
unfolding lowers_in
taken_begin {lines = lines} all none = record { total = ap (λ xs. xs ++ lowers_of lines) none ∙ ap lowers_of all }

pub taken_next : {bytes : List ℕ} {lines more : List Numbered} {done grown : List Lowercase} (r : Numbered) → AreTaken bytes lines done → lines ≡ r ∷ more → grown ≡ done ++ said_lower r.text → AreTaken bytes more grown
unfolding lowers_of
taken_next {more = more} {done = done} r h cut grows = record { total = grown_next done (said_lower r.text) (lowers_of more) h.total (ap lowers_of cut) grows }

pub field_begin : (text : List ℕ) (at : ℕ) → field at text ≡ field (at - 0) text
field_begin text at = let same : at ≡ at - 0 = omega arith in ap (λ n. field n text) same

pub taken_end : {bytes : List ℕ} {lines : List Numbered} {done : List Lowercase} → AreTaken bytes lines done → lines ≡ [] → AreLowercases bytes done
unfolding lowers_of
taken_end {bytes = bytes} {done = done} h e =
    subst (AreLowercases bytes) (sym h.total ∙ ap (λ ls. done ++ lowers_of ls) e ∙ append-nil done) (are_lowers bytes)

-- What is read of a record.
module _ (text : List ℕ) where
  abbrev ranged : Bool
  ranged = opens_range (field 1 text) || closes_range (field 1 text)

  by_range : (t : Bool) → ranged ≡ t → said_lower text ≡ cond t [] (pair_of (code_value (field 0 text)) (word_code (words_of Spaces (field 13 text))))
  unfolding said_lower
  by_range t e = ap (λ b. cond b [] (pair_of (code_value (field 0 text)) (word_code (words_of Spaces (field 13 text))))) e

  pub said_opening : opens_range (field 1 text) ≡ true → [] ≡ said_lower text
  said_opening e = sym (by_range true (or_left (opens_range (field 1 text)) (closes_range (field 1 text)) e))

  pub said_closing : closes_range (field 1 text) ≡ true → [] ≡ said_lower text
  said_closing e = sym (by_range true (or_right (opens_range (field 1 text)) (closes_range (field 1 text)) e))

  no_pair : (o : Option ℕ) → pair_of o None ≡ []
  no_pair None = refl
  no_pair (Some code) = refl

  pub said_no_lower : word_code (words_of Spaces (field 13 text)) ≡ None → [] ≡ said_lower text
  said_no_lower none =
      elim (cases_Bool ranged) [
        | inl ranges ↦ sym (by_range true ranges)
        | inr alone ↦ sym (by_range false alone ∙ ap (pair_of (code_value (field 0 text))) none ∙ no_pair (code_value (field 0 text)))
      ]

  pub said_pair : (o l : Option ℕ) → opens_range (field 1 text) ≡ false → closes_range (field 1 text) ≡ false → code_value (field 0 text) ≡ o → word_code (words_of Spaces (field 13 text)) ≡ l → pair_of o l ≡ said_lower text
  said_pair o l eo ec code lower = sym (
      by_range false (ap (λ t. t || closes_range (field 1 text)) eo ∙ ec)
      ∙ ap (λ x. pair_of x (word_code (words_of Spaces (field 13 text)))) code ∙ ap (pair_of o) lower
      )
