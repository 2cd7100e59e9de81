-- The words of strings and bytes, one after the other.
use Rattle.std.proofs.Common.{◌≡◌, ℕ, ◌+◌, ◌-◌, ◌*◌, ◌<◌, ◌≤◌, Bool, true, false, ◌&&◌, cond, eqb, not, List, [], ◌∷◌, ◌++◌, length, get_or, take, drop, Option, Some, None, Bor, MatchOption, is_some, option_map, Result, IfErr, chars, encode_utf8, encode_utf8_all, IsUtf8, refl, sym, ap, ◌∙◌, arith}
use Rattle.std.specs.Char.{digit_value}
use Rattle.std.specs.List.{AllZip}
use Rattle.std.specs.Option.{option_and_then}
use Rattle.std.proofs.lemmas.Bool.{cond-true, cond-false, eqb-true, true≢false}
use Rattle.std.proofs.lemmas.List.{append-nil, take_rest}
use Rattle.std.proofs.lemmas.Result.{IfErr-weaker}
use Rattle.std.proofs.lemmas.Str.{chars_from_encodes, encodes-append, encodes-chars}
use Rattle.np_code_points.specs.Codes.{IsScalarOf, is_hex_digit}
use Rattle.np_code_points.specs.inside.WordValues.{scalar_value, scalars_of}
use Rattle.np_code_points.proofs.ValueGrammar.{joined, joined_step, scalar_from, zip_from}
use Rattle.np_schedules.proofs.EventGrammar.{no_slash}
use Rattle.np_schedules.specs.inside.LineReading.{Lacks}
use Rattle.np_schedules.specs.inside.LineValues.{is_slash, up_to_slash, behind_slash, halves_value, hex_pairs, hex_words}
use Rattle.np_schedules.specs.declared.reading.faults.LineFault.{LineFault}
use Rattle.np_schedules.specs.declared.reading.faults.LineFault.TheVariants.{Unfit, Memory}

-- where one value lacks another does
lacks_more : {A B : Type 0} (value : Option A) (other : Option B) (fault : LineFault) → (value ≡ None → other ≡ None) → Lacks value fault → Lacks other fault
lacks_more value other Unfit more lacks = more lacks
lacks_more value other Memory more lacks = tt

pub lacks_by : {A B C : Type 0} (r : Result C LineFault) (value : Option A) (other : Option B) → (value ≡ None → other ≡ None) → IfErr r (Lacks value) → IfErr r (Lacks other)
lacks_by r value other more h = IfErr-weaker r (Lacks value) (Lacks other) (λ fault. lacks_more value other fault more) h

pub not_true_false : (b : Bool) → not b ≡ true → b ≡ false
not_true_false true h = absurd (true≢false (sym h))
not_true_false false h = refl

pub not_false_true : (b : Bool) → not b ≡ false → b ≡ true
not_false_true true h = refl
not_false_true false h = absurd (true≢false h)

-- A word was taken, or none was left.
abbrev Takes : List (List ℕ) → Option (Bor (List ℕ)) → List (List ℕ) → Type 0
Takes words taken rest = MatchOption taken ((words ≡ []) × (rest ≡ [])) (λ word. words ≡ word.now ∷ rest)

pub takes_some : (words : List (List ℕ)) (taken : Option (Bor (List ℕ))) (rest : List (List ℕ)) → Takes words taken rest → is_some taken ≡ true → (word : List ℕ) × (words ≡ word ∷ rest)
takes_some words None rest h e = absurd (true≢false (sym e))
takes_some words (Some word) rest h e = (word.now, h)

pub takes_none : (words : List (List ℕ)) (taken : Option (Bor (List ℕ))) (rest : List (List ℕ)) → Takes words taken rest → is_some taken ≡ false → words ≡ []
takes_none words None rest h e = h.0
takes_none words (Some word) rest h e = absurd (true≢false e)

-- The words up to '/'.
module _ (words : List (List ℕ)) (word : List ℕ) (more : List (List ℕ)) (first : words ≡ word ∷ more) where
  pub up_to_here : is_slash word ≡ true → up_to_slash words ≡ []
  unfolding up_to_slash
  up_to_here is = ap up_to_slash first ∙ cond-true (is_slash word) [] (word ∷ up_to_slash more) is

  pub behind_here : is_slash word ≡ true → behind_slash words ≡ Some more
  unfolding behind_slash
  behind_here is = ap behind_slash first ∙ cond-true (is_slash word) (Some more) (behind_slash more) is

  pub up_to_later : is_slash word ≡ false → up_to_slash words ≡ word ∷ up_to_slash more
  unfolding up_to_slash
  up_to_later is = ap up_to_slash first ∙ cond-false (is_slash word) [] (word ∷ up_to_slash more) is

  pub behind_later : is_slash word ≡ false → behind_slash words ≡ behind_slash more
  unfolding behind_slash
  behind_later is = ap behind_slash first ∙ cond-false (is_slash word) (Some more) (behind_slash more) is

pub up_to_end : (words : List (List ℕ)) → words ≡ [] → up_to_slash words ≡ []
unfolding up_to_slash
up_to_end words h = ap up_to_slash h

pub behind_end : (words : List (List ℕ)) → words ≡ [] → behind_slash words ≡ None
unfolding behind_slash
behind_end words h = ap behind_slash h

-- one code point more in a string
pub one_more_char : (old new : List ℕ) (code : ℕ) → IsUtf8 old → IsUtf8 new → new ≡ old ++ encode_utf8 code → chars new ≡ chars old ++ code ∷ []
one_more_char old new code before utf8 h =
    sym (chars_from_encodes (chars old ++ code ∷ []) new utf8
    (encodes-append (chars old) (code ∷ [])
    ∙ ap (λ (l : List ℕ). l ++ encode_utf8_all (code ∷ [])) (encodes-chars old before)
    ∙ ap (λ (l : List ℕ). old ++ l) (append-nil (encode_utf8 code))
    ∙ sym h))

-- words that write a string have no '/' among them
zip_up_to : (words : List (List ℕ)) (string : List ℕ) → AllZip IsScalarOf words string → up_to_slash words ≡ words
unfolding up_to_slash
zip_up_to [] string h = refl
zip_up_to (word ∷ words) [] h = absurd h
zip_up_to (word ∷ words) (code ∷ string) h =
    cond-false (is_slash word) [] (word ∷ up_to_slash words) (no_slash word code h.0) ∙ ap (λ ws. word ∷ ws) (zip_up_to words string h.1)

zip_behind : (words : List (List ℕ)) (string : List ℕ) → AllZip IsScalarOf words string → behind_slash words ≡ None
unfolding behind_slash
zip_behind [] string h = refl
zip_behind (word ∷ words) [] h = absurd h
zip_behind (word ∷ words) (code ∷ string) h =
    cond-false (is_slash word) (Some words) (behind_slash words) (no_slash word code h.0) ∙ zip_behind words string h.1

up_to_step : (words : List (List ℕ)) (o : Option (List ℕ)) → scalars_of words ≡ o → scalars_of (up_to_slash words) ≡ None → o ≡ None
up_to_step words None e h = refl
up_to_step words (Some string) e h =
    let same = ap scalars_of (zip_up_to words string (zip_from scalar_value IsScalarOf scalar_from words string e)) in absurd (cc)

pub scalars_none : (words : List (List ℕ)) → scalars_of (up_to_slash words) ≡ None → scalars_of words ≡ None
scalars_none words h = up_to_step words (scalars_of words) refl h

behind_step : (words rest : List (List ℕ)) (o : Option (List ℕ)) → scalars_of words ≡ o → behind_slash words ≡ Some rest → o ≡ None
behind_step words rest None e h = refl
behind_step words rest (Some string) e h =
    let none = zip_behind words string (zip_from scalar_value IsScalarOf scalar_from words string e) in absurd (cc)

pub scalars_parted : (words rest : List (List ℕ)) → behind_slash words ≡ Some rest → scalars_of words ≡ None
scalars_parted words rest h = behind_step words rest (scalars_of words) refl h

whole_step : (t : Bool) (word : List ℕ) (words up : List (List ℕ)) (behind : Option (List (List ℕ))) → (behind ≡ None → up ≡ words) → cond t (Some words) behind ≡ None → cond t [] (word ∷ up) ≡ word ∷ words
whole_step true word words up behind more h = absurd (cc)
whole_step false word words up behind more h = ap (λ ws. word ∷ ws) (more h)

up_to_whole : (words : List (List ℕ)) → behind_slash words ≡ None → up_to_slash words ≡ words
unfolding behind_slash up_to_slash
up_to_whole [] h = refl
up_to_whole (word ∷ words) h = whole_step (is_slash word) word words (up_to_slash words) (behind_slash words) (up_to_whole words) h

pub scalars_whole : (words : List (List ℕ)) → behind_slash words ≡ None → scalars_of words ≡ scalars_of (up_to_slash words)
scalars_whole words h = ap scalars_of (sym (up_to_whole words h))

-- The strings on both sides of '/'.
pub halves_left : (words : List (List ℕ)) → scalars_of (up_to_slash words) ≡ None → halves_value words ≡ None
unfolding halves_value
halves_left words h = ap (option_and_then (λ left. option_map (λ right. (left, right)) (option_and_then scalars_of (behind_slash words)))) h

right_step : (o right : Option (List ℕ)) → right ≡ None → option_and_then {U = List ℕ × List ℕ} (λ left. option_map (λ right. (left, right)) right) o ≡ None
right_step None right h = refl
right_step (Some left) right h = rw h

pub halves_alone : (words : List (List ℕ)) → behind_slash words ≡ None → halves_value words ≡ None
unfolding halves_value
halves_alone words h = right_step (scalars_of (up_to_slash words)) (option_and_then scalars_of (behind_slash words)) (ap (option_and_then scalars_of) h)

pub halves_right : (words rest : List (List ℕ)) → behind_slash words ≡ Some rest → scalars_of rest ≡ None → halves_value words ≡ None
unfolding halves_value
halves_right words rest h none =
    right_step (scalars_of (up_to_slash words)) (option_and_then scalars_of (behind_slash words)) (ap (option_and_then scalars_of) h ∙ none)

pub halves_both : (words rest : List (List ℕ)) (left right : List ℕ) → scalars_of (up_to_slash words) ≡ Some left → behind_slash words ≡ Some rest → scalars_of rest ≡ Some right → halves_value words ≡ Some (left, right)
unfolding halves_value
halves_both words rest left right first h second =
    ap (option_and_then (λ left. option_map (λ right. (left, right)) (option_and_then scalars_of (behind_slash words)))) first
    ∙ ap (λ o. option_map (λ right. (left, right)) (option_and_then scalars_of o)) h
    ∙ ap (option_map (λ right. (left, right))) second

-- Bytes in hex digits.
pair_step : (t : Bool) (written byte : ℕ) (rest : Option (List ℕ)) → Some byte ≡ cond t (Some written) None → cond t (option_map (λ bytes. written ∷ bytes) rest) None ≡ option_map (λ bytes. byte ∷ bytes) rest
pair_step true written byte rest h = let same : written ≡ byte = cc in ap (λ b. option_map (λ bytes. b ∷ bytes) rest) same
pair_step false written byte rest h = absurd (cc)

pair_none : (t : Bool) (written : ℕ) (rest : Option (List ℕ)) → None ≡ cond t (Some written) None → cond t (option_map (λ bytes. written ∷ bytes) rest) None ≡ None
pair_none true written rest h = absurd (cc)
pair_none false written rest h = refl

-- the first two digits, and those behind them
pub split_pair : (left : List ℕ) → 2 ≤ length left → left ≡ get_or left 0 0 ∷ get_or left 1 0 ∷ take (length left - 2) (drop 2 left)
split_pair [] l = absurd (omega arith)
split_pair (x ∷ []) l = absurd (omega arith)
split_pair (x ∷ y ∷ ls) l = ap (λ r. x ∷ y ∷ r) (sym (take_rest (x ∷ y ∷ ls) 2))

pub one_digit : (left : List ℕ) → length left < 2 → eqb (length left) 0 ≡ false → left ≡ get_or left 0 0 ∷ []
one_digit [] l e = absurd (true≢false e)
one_digit (x ∷ []) l e = refl
one_digit (x ∷ y ∷ ls) l e = absurd (omega arith)

pub no_digits : (left : List ℕ) → eqb (length left) 0 ≡ true → left ≡ []
no_digits [] e = refl
no_digits (x ∷ ls) e = absurd (omega (arith, eqb-true (length (x ∷ ls)) 0 e))

module _ (all : Option (List ℕ)) (done left : List ℕ) (total : all ≡ joined done (hex_pairs left)) where
  pub one_more_pair : (high low : ℕ) (behind : List ℕ) (byte : ℕ) → left ≡ high ∷ low ∷ behind → Some byte ≡ cond (is_hex_digit high && is_hex_digit low) (Some (digit_value high * 16 + digit_value low)) None → all ≡ joined (done ++ byte ∷ []) (hex_pairs behind)
  unfolding hex_pairs
  one_more_pair high low behind byte first said =
      total ∙ ap (λ ds. joined done (hex_pairs ds)) first
      ∙ ap (joined done) (pair_step (is_hex_digit high && is_hex_digit low) (digit_value high * 16 + digit_value low) byte (hex_pairs behind) said)
      ∙ joined_step byte done (hex_pairs behind)

  pub no_pair : (high low : ℕ) (behind : List ℕ) → left ≡ high ∷ low ∷ behind → None ≡ cond (is_hex_digit high && is_hex_digit low) (Some (digit_value high * 16 + digit_value low)) None → all ≡ None
  unfolding hex_pairs
  no_pair high low behind first said =
      total ∙ ap (λ ds. joined done (hex_pairs ds)) first
      ∙ ap (joined done) (pair_none (is_hex_digit high && is_hex_digit low) (digit_value high * 16 + digit_value low) (hex_pairs behind) said)

  pub all_pairs : left ≡ [] → all ≡ Some done
  unfolding hex_pairs
  all_pairs none = total ∙ ap (λ ds. joined done (hex_pairs ds)) none ∙ ap Some (append-nil done)

  pub half_pair : (digit : ℕ) → left ≡ digit ∷ [] → all ≡ None
  unfolding hex_pairs
  half_pair digit one = total ∙ ap (λ ds. joined done (hex_pairs ds)) one

pub no_hex_word : (words : List (List ℕ)) → words ≡ [] → hex_words words ≡ Some []
unfolding hex_words
no_hex_word words h = ap hex_words h

pub one_hex_word : (words : List (List ℕ)) (word : List ℕ) (more : List (List ℕ)) → words ≡ word ∷ more → more ≡ [] → hex_words words ≡ hex_pairs word
unfolding hex_words
one_hex_word words word more first none = ap hex_words (first ∙ ap (λ ws. word ∷ ws) none)

pub two_hex_words : (words : List (List ℕ)) (word second : List ℕ) (more rest : List (List ℕ)) → words ≡ word ∷ more → more ≡ second ∷ rest → hex_words words ≡ None
unfolding hex_words
two_hex_words words word second more rest first next = ap hex_words (first ∙ ap (λ ws. word ∷ ws) next)
