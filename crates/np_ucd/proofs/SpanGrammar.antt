-- A line of CompositionExclusions.txt lists what the grammar says.
use Rattle.std.proofs.Common.{◌≡◌, ℕ, ◌≤◌, ◌⊎◌, Bool, true, false, cond, eqb, leb, List, [], ◌∷◌, ◌++◌, Option, Some, None, option_map, refl, sym, ap, subst, ◌∙◌, inl, inr, ⊎_elim, arith}
use Rattle.std.specs.List.{list_all}
use Rattle.std.specs.Option.{option_and_then}
use Rattle.std.proofs.lemmas.Bool.{false≢true, eqb-true, leb-true, le-leb, cond-true, and_parts}
use Rattle.std.proofs.lemmas.List.Elements.{All-nil, All-cons}
use Rattle.np_code_points.specs.Codes.{is_hex_digit, is_code, code_value}
use Rattle.np_ucd.specs.Exclusions.{SaysText, IsOneCode, IsCodeRange, ListsNothing, ListsSpan, IsReadable}
use Rattle.np_ucd.specs.Listed.{Span}
use Rattle.np_ucd.proofs.TextGrammar.{says_text, only_says}
use Rattle.np_code_points.proofs.LineGrammar.{not_byte, joined_some, joined_none, before_at, after_at, after_none}
use Rattle.np_code_points.specs.Lines.{HasNo}
use Rattle.np_code_points.specs.inside.LineCuts.{before_byte, after_byte, is_empty}
use Rattle.np_ucd.specs.inside.ExclusionReading.{entry_text, if_rising, span_between, span_at, span_value, line_spans}

-- A code point's digits hold no '.'.
no_dot_digits : (xs : List ℕ) → list_all is_hex_digit xs ≡ true → HasNo 46 xs
no_dot_digits [] h = All-nil (not_byte 46)
no_dot_digits (x ∷ xs) h =
    let both = and_parts (is_hex_digit x) (list_all is_hex_digit xs) h in
    All-cons (not_byte 46) x xs (λ e. false≢true (ap is_hex_digit (sym e) ∙ both.0)) (no_dot_digits xs both.1)

pub taken : (t : Bool) (n c : ℕ) → cond t (Some n) None ≡ Some c → t ≡ true
taken true n c h = refl
taken false n c h = absurd (cc)

no_dot : (xs : List ℕ) (c : ℕ) → code_value xs ≡ Some c → HasNo 46 xs
unfolding code_value
no_dot xs c h = no_dot_digits xs (and_parts _ _ (and_parts _ _ (taken (is_code xs) _ c h)).1).0

-- What a text lists.
abbrev span_from : ℕ → ℕ → Span
span_from a b = record { first = a; last = b }

rise_step : (t : Bool) (a b : ℕ) (span : Span) → leb a b ≡ t → cond t (Some (span_from a b)) None ≡ Some span → (a ≡ span.first) × (b ≡ span.last) × (a ≤ b)
rise_step true a b span e h =
    let same : span_from a b ≡ span = cc in
    (ap (λ (s : Span). s.first) same, ap (λ (s : Span). s.last) same, leb-true a b e)
rise_step false a b span e h = absurd (cc)

between_step : (low high : Option ℕ) (span : Span) → option_and_then (λ a. option_and_then (λ b. if_rising a b) high) low ≡ Some span → (low ≡ Some span.first) × (high ≡ Some span.last) × (span.first ≤ span.last)
between_step None high span h = absurd (cc)
between_step (Some a) None span h = absurd (cc)
between_step (Some a) (Some b) span h =
    let is = rise_step (leb a b) a b span refl h in
    (ap Some is.0, ap Some is.1, omega (arith, is.0, is.1, is.2))

between : (low high : List ℕ) (span : Span) → span_between low high ≡ Some span → (code_value low ≡ Some span.first) × (code_value high ≡ Some span.last) × (span.first ≤ span.last)
between low high span h = between_step (code_value low) (code_value high) span h

from_between : (low high : List ℕ) (span : Span) → code_value low ≡ Some span.first → code_value high ≡ Some span.last → span.first ≤ span.last → span_between low high ≡ Some span
from_between low high span first last rises =
    ap (λ o. option_and_then (λ a. option_and_then (λ b. if_rising a b) (code_value high)) o) first
    ∙ ap (λ o. option_and_then (λ b. if_rising span.first b) o) last
    ∙ cond-true (leb span.first span.last) (Some span) None (le-leb span.first span.last rises)

dotted_step : (t : Bool) (text low : List ℕ) (b : ℕ) (high : List ℕ) (span : Span) → eqb b 46 ≡ t → text ≡ low ++ 46 ∷ b ∷ high → cond t (span_between low high) None ≡ Some span → IsCodeRange text span
dotted_step true text low b high span e stands h =
    let is = between low high span h in
    record {
      low = low;
      high = high;
      stands = stands ∙ ap (λ x. low ++ 46 ∷ x ∷ high) (eqb-true b 46 e);
      first = is.0;
      last = is.1;
      rises = is.2;
    }
dotted_step false text low b high span e stands h = absurd (cc)

text_step : (text : List ℕ) (o : Option (List ℕ)) (span : Span) → after_byte 46 text ≡ o → span_at (before_byte 46 text) o ≡ Some span → IsOneCode text span ⊎ IsCodeRange text span
text_step text None span e h =
    let is = between (before_byte 46 text) (before_byte 46 text) span h in
    let both = sym is.1 ∙ is.0 in
    let same : span.last ≡ span.first = cc in
    inl (ap code_value (joined_none 46 text e) ∙ is.0, same)
text_step text (Some []) span e h = absurd (cc)
text_step text (Some (b ∷ high)) span e h =
    inr (dotted_step (eqb b 46) text (before_byte 46 text) b high span refl (joined_some 46 text (b ∷ high) e) h)

text_lists : (text : List ℕ) (span : Span) → span_value text ≡ Some span → IsOneCode text span ⊎ IsCodeRange text span
unfolding span_value
text_lists text span h = text_step text (after_byte 46 text) span refl h

one_listed : (text : List ℕ) (span : Span) → IsOneCode text span → span_value text ≡ Some span
unfolding span_value
one_listed text span h =
    let none = after_none 46 text (no_dot text span.first h.0) in
    ap (span_at (before_byte 46 text)) none
    ∙ ap (λ front. span_between front front) (sym (joined_none 46 text none))
    ∙ from_between text text span h.0 (h.0 ∙ ap Some (sym h.1)) (omega (arith, h.1))

range_listed : (text : List ℕ) (span : Span) → IsCodeRange text span → span_value text ≡ Some span
unfolding span_value
range_listed text span h =
    let free = no_dot h.low span.first h.first in
    ap (λ t. span_at (before_byte 46 t) (after_byte 46 t)) h.stands
    ∙ ap (λ o. span_at (before_byte 46 (h.low ++ 46 ∷ 46 ∷ h.high)) o) (after_at 46 h.low (46 ∷ h.high) free)
    ∙ ap (λ front. span_between front h.high) (before_at 46 h.low (46 ∷ h.high) free)
    ∙ from_between h.low h.high span h.first h.last h.rises

-- What a line lists.
abbrev listed_by : List ℕ → Option (List Span)
listed_by text = cond (is_empty text) (Some []) (option_map (λ span. span ∷ []) (span_value text))

line_is : (line : List ℕ) → line_spans line ≡ listed_by (entry_text line)
unfolding line_spans
line_is line = refl

nothing_step : (o : Option Span) → option_map (λ (span : Span). span ∷ []) o ≡ Some [] → ⊥
nothing_step None h = absurd (cc)
nothing_step (Some span) h = absurd (cc)

nothing : (text : List ℕ) → listed_by text ≡ Some [] → text ≡ []
nothing [] h = refl
nothing (x ∷ xs) h = absurd (nothing_step (span_value (x ∷ xs)) h)

span_step : (o : Option Span) (span : Span) → option_map (λ (s : Span). s ∷ []) o ≡ Some (span ∷ []) → o ≡ Some span
span_step None span h = absurd (cc)
span_step (Some s) span h = cc

one_span : (text : List ℕ) (span : Span) → listed_by text ≡ Some (span ∷ []) → span_value text ≡ Some span
one_span [] span h = absurd (cc)
one_span (x ∷ xs) span h = span_step (span_value (x ∷ xs)) span h

no_text : (span : Span) → span_value [] ≡ Some span → ⊥
unfolding span_value code_value
no_text span h = absurd (cc)

span_one : (text : List ℕ) (span : Span) → span_value text ≡ Some span → listed_by text ≡ Some (span ∷ [])
span_one [] span h = absurd (no_text span h)
span_one (x ∷ xs) span h = ap (λ o. option_map (λ (s : Span). s ∷ []) o) h

lists_nothing : (line : List ℕ) → line_spans line ≡ Some [] → ListsNothing line
lists_nothing line h = subst (SaysText line) (nothing (entry_text line) (sym (line_is line) ∙ h)) (says_text line)

pub nothing_listed : (line : List ℕ) → ListsNothing line → line_spans line ≡ Some []
nothing_listed line h = line_is line ∙ ap listed_by (sym (only_says line [] h))

pub lists_span : (line : List ℕ) (span : Span) → line_spans line ≡ Some (span ∷ []) → ListsSpan line span
lists_span line span h =
    (entry_text line, says_text line, text_lists (entry_text line) span (one_span (entry_text line) span (sym (line_is line) ∙ h)))

pub span_listed : (line : List ℕ) (span : Span) → ListsSpan line span → line_spans line ≡ Some (span ∷ [])
span_listed line span h =
    line_is line ∙ ap listed_by (sym (only_says line h.0 h.1))
    ∙ span_one h.0 span (⊎_elim (one_listed h.0 span) (range_listed h.0 span) h.2)

-- A line can't be read, or lists nothing, or a span.
abbrev pub Kind : Option (List Span) → Type 0
Kind o = (o ≡ None) ⊎ ((o ≡ Some []) ⊎ ((span : Span) × (o ≡ Some (span ∷ []))))

kind_step : (o : Option Span) → Kind (option_map (λ (span : Span). span ∷ []) o)
kind_step None = inl refl
kind_step (Some span) = inr (inr (span, refl))

kind_of : (text : List ℕ) → Kind (listed_by text)
kind_of [] = inr (inl refl)
kind_of (x ∷ xs) = kind_step (span_value (x ∷ xs))

pub kind : (line : List ℕ) → Kind (line_spans line)
kind line = subst Kind (sym (line_is line)) (kind_of (entry_text line))

pub bad_or_readable : (line : List ℕ) → (line_spans line ≡ None) ⊎ IsReadable line
bad_or_readable line =
    ⊎_elim (λ bad. inl bad)
    (λ good. inr (⊎_elim (λ h. inl (lists_nothing line h)) (λ h. inr (h.0, lists_span line h.0 h.1)) good)) (kind line)

pub not_bad : (line : List ℕ) → line_spans line ≡ None → IsReadable line → ⊥
not_bad line bad h =
    ⊎_elim (λ nothing. let e = nothing_listed line nothing in absurd (cc)) (λ some. let e = span_listed line some.0 some.1 in absurd (cc)) h
