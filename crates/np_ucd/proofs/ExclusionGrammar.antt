-- CompositionExclusions.txt as a whole is read as the grammar says.
use Rattle.std.proofs.Common.{◌≡◌, ℕ, ◌<◌, ◌≤◌, ◌⊎◌, ◌↔◌, true, leb, List, [], ◌∷◌, ◌++◌, Option, Some, None, refl, sym, ap, subst, ◌∙◌, inl, inr, ⊎_elim, arith}
use Rattle.std.specs.List.{All, AllPairs, Contains, list_any}
use Rattle.std.proofs.lemmas.Bool.{false≢true, leb-true, le-leb, and_parts, and_from, or_cases, or_left, or_right}
use Rattle.std.proofs.lemmas.List.Elements.{All-nil, All-cons, All-head, All-tail}
use Rattle.std.proofs.lemmas.List.Folds.{list_any-append}
use Rattle.np_code_points.specs.Lines.{Numbered, IsDataLine}
use Rattle.np_code_points.specs.inside.LineCuts.{data_lines_in}
use Rattle.np_code_points.proofs.DataLineGrammar.{are_data_lines}
use Rattle.np_code_points.proofs.Elements.{contains_here, contains_more, contains_cases, contains_none, contains_middle, all_contained, least_left}
use Rattle.np_ucd.specs.Exclusions.{IsReadable, IsBadLine, IsFirstBadLine, AreReadable, IsListedIn}
use Rattle.np_ucd.specs.Listed.{Span, is_within, is_listed}
use Rattle.np_ucd.specs.Tests.{UcdFault, BadCode}
use Rattle.np_ucd.specs.inside.ExclusionReading.{line_spans, fault_at, spans_fault, and_spans, spans_of, exclusions_fault, spans_in}
use Rattle.np_ucd.proofs.SpanGrammar.{nothing_listed, lists_span, span_listed, kind, bad_or_readable, not_bad}

abbrev CanRead : Numbered → Type 0
CanRead r = IsReadable r.text

-- The first line that can't be read.
record Bad (lines : List Numbered) : Type 0 where
  before : List Numbered
  line : Numbered
  behind : List Numbered
  stands : lines ≡ before ++ line ∷ behind
  bad : line_spans line.text ≡ None
  first : All CanRead before

longer : (r : Numbered) (lines : List Numbered) → CanRead r → Bad lines → Bad (r ∷ lines)
longer r lines readable h = record {
  before = r ∷ h.before;
  line = h.line;
  behind = h.behind;
  stands = ap (λ ls. r ∷ ls) h.stands;
  bad = h.bad;
  first = All-cons CanRead r h.before readable h.first;
}

outcome : (lines : List Numbered) → Bad lines ⊎ All CanRead lines
outcome [] = inr (All-nil CanRead)
outcome (r ∷ lines) =
    ⊎_elim
    (λ bad. inl (record { before = []; line = r; behind = lines; stands = refl; bad = bad; first = All-nil CanRead }))
    (λ good. ⊎_elim (λ more. inl (longer r lines good more)) (λ all. inr (All-cons CanRead r lines good all)) (outcome lines))
    (bad_or_readable r.text)

passes_line : (r : Numbered) (rest : Option UcdFault) → CanRead r → fault_at r.line (line_spans r.text) rest ≡ rest
passes_line r rest h =
    ⊎_elim
    (λ nothing. ap (λ o. fault_at r.line o rest) (nothing_listed r.text nothing))
    (λ some. ap (λ o. fault_at r.line o rest) (span_listed r.text some.0 some.1))
    h

at_bad : (before : List Numbered) (line : Numbered) (behind : List Numbered) → All CanRead before → line_spans line.text ≡ None → spans_fault (before ++ line ∷ behind) ≡ Some (BadCode line.line)
unfolding spans_fault
at_bad [] line behind first bad = ap (λ o. fault_at line.line o (spans_fault behind)) bad
at_bad (r ∷ before) line behind first bad =
    passes_line r (spans_fault (before ++ line ∷ behind)) (All-head CanRead r before first)
    ∙ at_bad before line behind (All-tail CanRead r before first) bad

all_read : (lines : List Numbered) → All CanRead lines → spans_fault lines ≡ None
unfolding spans_fault
all_read [] h = refl
all_read (r ∷ lines) h = passes_line r (spans_fault lines) (All-head CanRead r lines h) ∙ all_read lines (All-tail CanRead r lines h)

bad_answer : (lines : List Numbered) (h : Bad lines) → spans_fault lines ≡ Some (BadCode h.line.line)
bad_answer lines h = ap spans_fault h.stands ∙ at_bad h.before h.line h.behind h.first h.bad

bad_line : (bytes : List ℕ) (h : Bad (data_lines_in bytes)) → IsBadLine bytes h.line.line
bad_line bytes h = record {
  line = h.line;
  is = all_contained (IsDataLine bytes) (data_lines_in bytes) h.line (are_data_lines bytes).each
      (subst (λ ls. Contains ls h.line) (sym h.stands) (contains_middle h.before h.line h.behind));
  at = refl;
  bad = not_bad h.line.text h.bad;
}

least_bad : (bytes : List ℕ) (h : Bad (data_lines_in bytes)) (other : ℕ) (o : IsBadLine bytes other) → h.line.line ≤ other
least_bad bytes h other o =
    let l = least_left Numbered (λ k. k.line) h.before h.line h.behind o.line
    (subst (λ ls. AllPairs (λ (j k : Numbered). j.line < k.line) ls) h.stands (are_data_lines bytes).rise)
    (subst (λ ls. Contains ls o.line) h.stands ((are_data_lines bytes).all o.line o.is))
    (λ in'. o.bad (all_contained CanRead h.before o.line h.first in')) in
    omega (arith, o.at)

to_bad : (bytes : List ℕ) (fault : UcdFault) → spans_fault (data_lines_in bytes) ≡ Some fault → IsFirstBadLine bytes fault
to_bad bytes fault h =
    ⊎_elim
    (λ (w : Bad (data_lines_in bytes)).
    let both = sym h ∙ bad_answer (data_lines_in bytes) w in
    let same : fault ≡ BadCode w.line.line = cc in
    record { number = w.line.line; fault_is = same; bad = bad_line bytes w; least = least_bad bytes w })
    (λ all. let none = all_read (data_lines_in bytes) all in absurd (cc))
    (outcome (data_lines_in bytes))

pub first_bad_line : (bytes : List ℕ) (fault : UcdFault) → exclusions_fault bytes ≡ Some fault → IsFirstBadLine bytes fault
unfolding exclusions_fault
first_bad_line bytes fault h = to_bad bytes fault h

none_bad : (bytes : List ℕ) → spans_fault (data_lines_in bytes) ≡ None → AreReadable bytes
none_bad bytes h number o =
    ⊎_elim
    (λ (w : Bad (data_lines_in bytes)). let both = sym h ∙ bad_answer (data_lines_in bytes) w in absurd (cc))
    (λ all. o.bad (all_contained CanRead (data_lines_in bytes) o.line all ((are_data_lines bytes).all o.line o.is)))
    (outcome (data_lines_in bytes))

pub are_readable : (bytes : List ℕ) → exclusions_fault bytes ≡ None → AreReadable bytes
unfolding exclusions_fault
are_readable bytes h = none_bad bytes h

-- The code points that are listed.
record Holds (lines : List Numbered) (code : ℕ) : Type 0 where
  line : Numbered
  span : Span
  in_lines : Contains lines line
  lists : line_spans line.text ≡ Some (span ∷ [])
  within : is_within code span ≡ true

behind_holds : (r : Numbered) (lines : List Numbered) (code : ℕ) → Holds lines code → Holds (r ∷ lines) code
behind_holds r lines code h = record {
  line = h.line;
  span = h.span;
  in_lines = contains_more r h.line lines h.in_lines;
  lists = h.lists;
  within = h.within;
}

one_holds : (r : Numbered) (lines : List Numbered) (code : ℕ) (span : Span) → line_spans r.text ≡ Some (span ∷ []) → (is_listed (spans_of lines) code ≡ true → Holds lines code) → is_listed (span ∷ spans_of lines) code ≡ true → Holds (r ∷ lines) code
one_holds r lines code span e ih h =
    ⊎_elim
    (λ here. record { line = r; span = span; in_lines = contains_here r lines; lists = e; within = here })
    (λ more. behind_holds r lines code (ih more))
    (or_cases (is_within code span) (is_listed (spans_of lines) code) h)

holds : (lines : List Numbered) (code : ℕ) → is_listed (spans_of lines) code ≡ true → Holds lines code
unfolding spans_of
holds [] code h = absurd (false≢true h)
holds (r ∷ lines) code h =
    let rest = λ (o : Option (List Span)) (e : line_spans r.text ≡ o). ap (λ o. is_listed (and_spans o (spans_of lines)) code) (sym e) ∙ h in
    ⊎_elim
    (λ bad. behind_holds r lines code (holds lines code (rest None bad)))
    (λ good. ⊎_elim
    (λ none. behind_holds r lines code (holds lines code (rest (Some []) none)))
    (λ one. one_holds r lines code one.0 one.1 (holds lines code) (rest (Some (one.0 ∷ [])) one.1)) good)
    (kind r.text)

still_listed : (o : Option (List Span)) (rest : List Span) (code : ℕ) → is_listed rest code ≡ true → is_listed (and_spans o rest) code ≡ true
still_listed None rest code h = h
still_listed (Some spans) rest code h =
    list_any-append (is_within code) spans rest ∙ or_right (list_any (is_within code) spans) (list_any (is_within code) rest) h

listed_at : (lines : List Numbered) (line : Numbered) (span : Span) (code : ℕ) → Contains lines line → line_spans line.text ≡ Some (span ∷ []) → is_within code span ≡ true → is_listed (spans_of lines) code ≡ true
unfolding spans_of
listed_at [] line span code in' e h = absurd (contains_none line in')
listed_at (r ∷ lines) line span code in' e h =
    ⊎_elim
    (λ same. ap (λ (s : Numbered). is_listed (and_spans (line_spans s.text) (spans_of lines)) code) same
    ∙ ap (λ o. is_listed (and_spans o (spans_of lines)) code) e
    ∙ or_left (is_within code span) (is_listed (spans_of lines) code) h)
    (λ more. still_listed (line_spans r.text) (spans_of lines) code (listed_at lines line span code more e h))
    (contains_cases r line lines in')

to_line : (bytes : List ℕ) (code : ℕ) → is_listed (spans_of (data_lines_in bytes)) code ≡ true → IsListedIn bytes code
to_line bytes code h =
    let w = holds (data_lines_in bytes) code h in
    let both = and_parts (leb w.span.first code) (leb code w.span.last) w.within in
    record {
      line = w.line;
      is = all_contained (IsDataLine bytes) (data_lines_in bytes) w.line (are_data_lines bytes).each w.in_lines;
      span = w.span;
      lists = lists_span w.line.text w.span w.lists;
      begun = leb-true w.span.first code both.0;
      reached = leb-true code w.span.last both.1;
    }

from_line : (bytes : List ℕ) (code : ℕ) → IsListedIn bytes code → is_listed (spans_of (data_lines_in bytes)) code ≡ true
from_line bytes code h =
    listed_at (data_lines_in bytes) h.line h.span code ((are_data_lines bytes).all h.line h.is) (span_listed h.line.text h.span h.lists)
    (and_from (leb h.span.first code) (leb code h.span.last) (le-leb h.span.first code h.begun) (le-leb code h.span.last h.reached))

pub lists_codes : (bytes : List ℕ) (code : ℕ) → (is_listed (spans_in bytes) code ≡ true) ↔ IsListedIn bytes code
unfolding spans_in
lists_codes bytes code = (to_line bytes code, from_line bytes code)
