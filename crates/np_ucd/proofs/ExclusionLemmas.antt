-- How CompositionExclusions.txt is read line by line.
use Rattle.std.proofs.Common.{◌≡◌, ℕ, suc, ◌+◌, ◌≤◌, Bool, true, false, ◌&&◌, cond, List, [], ◌∷◌, ◌++◌, length, get_or, take, Option, Some, None, IfSome, is_some, Result, IfErr, refl, sym, ap, ◌∙◌, arith}
use Rattle.std.specs.List.{list_all}
use Rattle.std.proofs.lemmas.List.{append-nil, take_more}
use Rattle.std.proofs.lemmas.List.Folds.{list_all-append}
use Rattle.std.proofs.lemmas.Bool.{cond-true, cond-false, and_right}
use Rattle.np_ucd.specs.Listed.{Span}
use Rattle.np_ucd.specs.Faults.{line_of}
use Rattle.np_code_points.specs.Lines.{Numbered}
use Rattle.np_code_points.specs.inside.LineCuts.{is_blank, data_lines_in}
use Rattle.np_ucd.specs.Tests.{UcdFault}
use Rattle.np_ucd.specs.inside.ExclusionReading.{before_blanks, line_spans, fault_at, and_spans, spans_fault, spans_of, exclusions_fault, spans_in}
use Rattle.np_ucd.specs.inside.RecordValues.{IsMemoryOr}
use Rattle.np_ucd.proofs.WalkLemmas.{grown_next, memory_or_first}

and_true : (b : Bool) → (b && true) ≡ b
and_true true = refl
and_true false = refl

push_blank : (xs : List ℕ) (x : ℕ) → is_blank x ≡ true → list_all is_blank (xs ++ x ∷ []) ≡ list_all is_blank xs
push_blank xs x e =
    list_all-append is_blank xs (x ∷ [])
    ∙ ap (λ b. list_all is_blank xs && (b && true)) e
    ∙ and_true (list_all is_blank xs)

push_other : (xs : List ℕ) (x : ℕ) → is_blank x ≡ false → list_all is_blank (xs ++ x ∷ []) ≡ false
push_other xs x e =
    list_all-append is_blank xs (x ∷ [])
    ∙ ap (λ b. list_all is_blank xs && (b && true)) e
    ∙ and_right (list_all is_blank xs) false refl

pub back_blank : (xs : List ℕ) (x : ℕ) → is_blank x ≡ true → before_blanks (xs ++ x ∷ []) ≡ before_blanks xs
back_blank [] x e = cond-true (is_blank x && true) [] (x ∷ []) (ap (λ b. b && true) e)
back_blank (y ∷ ys) x e =
    ap (λ b. cond b [] (y ∷ before_blanks (ys ++ x ∷ []))) (push_blank (y ∷ ys) x e)
    ∙ ap (λ r. cond (list_all is_blank (y ∷ ys)) [] (y ∷ r)) (back_blank ys x e)

pub back_other : (xs : List ℕ) (x : ℕ) → is_blank x ≡ false → before_blanks (xs ++ x ∷ []) ≡ xs ++ x ∷ []
back_other [] x e = cond-false (is_blank x && true) [] (x ∷ []) (ap (λ b. b && true) e)
back_other (y ∷ ys) x e =
    cond-false (list_all is_blank (y ∷ ys ++ x ∷ [])) [] (y ∷ before_blanks (ys ++ x ∷ [])) (push_other (y ∷ ys) x e)
    ∙ ap (λ r. y ∷ r) (back_other ys x e)

last_of : (n end : ℕ) (xs : List ℕ) → end ≡ suc n → end ≤ length xs → take end xs ≡ take n xs ++ get_or xs n 0 ∷ []
last_of n end xs e l =
    let one : end ≡ n + 1 = omega arith in
    ap (λ k. take k xs) one ∙ take_more xs n 0 (omega arith)

pub back_goes_on : (n end : ℕ) (xs : List ℕ) → end ≡ suc n → end ≤ length xs → is_blank (get_or xs n 0) ≡ true → before_blanks (take end xs) ≡ before_blanks (take n xs)
back_goes_on n end xs e l blank = ap before_blanks (last_of n end xs e l) ∙ back_blank (take n xs) (get_or xs n 0) blank

pub back_stops : (n end : ℕ) (xs : List ℕ) → end ≡ suc n → end ≤ length xs → is_blank (get_or xs n 0) ≡ false → before_blanks (take end xs) ≡ take end xs
back_stops n end xs e l other =
    ap before_blanks (last_of n end xs e l) ∙ back_other (take n xs) (get_or xs n 0) other ∙ sym (last_of n end xs e l)

pub back_nothing : (end : ℕ) (xs : List ℕ) → end ≡ 0 → before_blanks (take end xs) ≡ take end xs
back_nothing end xs e = ap (λ k. before_blanks (take k xs)) e ∙ sym (ap (λ k. take k xs) e)

-- One line, and the lines behind it.
fine_passes : (line : ℕ) (o : Option (List Span)) (rest : Option UcdFault) → fault_at line o None ≡ None → fault_at line o rest ≡ rest
fine_passes line None rest h = absurd (cc)
fine_passes line (Some spans) rest h = refl

fault_stops : (line : ℕ) (o : Option (List Span)) (rest : Option UcdFault) (e : UcdFault) → fault_at line o None ≡ Some e → fault_at line o rest ≡ Some e
fault_stops line None rest e h = h
fault_stops line (Some spans) rest e h = absurd (cc)

spans_join : (o : Option (List Span)) (rest : List Span) → and_spans o rest ≡ and_spans o [] ++ rest
spans_join None rest = refl
spans_join (Some spans) rest = ap (λ xs. xs ++ rest) (sym (append-nil spans))

-- How far the lines are read: what is listed so far and what the lines that are left list is what the file lists, and
-- its first fault is theirs.
pub record AreTaken (bytes : List ℕ) (lines : List Numbered) (done : List Span) : Type 0 where
  pub fault : exclusions_fault bytes ≡ spans_fault lines
  pub spans : done ++ spans_of lines ≡ spans_in bytes

pub taken_begin : {bytes : List ℕ} {lines : List Numbered} {done : List Span} → lines ≡ data_lines_in bytes → done ≡ [] → AreTaken bytes lines done
unfolding exclusions_fault spans_in
taken_begin {lines = lines} all none = record {
  fault = ap spans_fault (sym all);
  spans = ap (λ spans. spans ++ spans_of lines) none ∙ ap spans_of all;
}

pub taken_next : {bytes : List ℕ} {lines more : List Numbered} {done grown : List Span} (r : Numbered) → AreTaken bytes lines done → lines ≡ r ∷ more → fault_at r.line (line_spans r.text) None ≡ None → grown ≡ done ++ and_spans (line_spans r.text) [] → AreTaken bytes more grown
unfolding spans_fault spans_of
taken_next {more = more} {done = done} r h cut fine grows = record {
  fault = h.fault ∙ ap spans_fault cut ∙ fine_passes r.line (line_spans r.text) (spans_fault more) fine;
  spans = grown_next done (and_spans (line_spans r.text) []) (spans_of more) h.spans (ap spans_of cut ∙ spans_join (line_spans r.text) (spans_of more)) grows;
}

pub taken_here : {bytes : List ℕ} {lines more : List Numbered} {done : List Span} {T : Type 0} (r : Numbered) (result : Result T UcdFault) → AreTaken bytes lines done → lines ≡ r ∷ more → IfErr result (λ e. IsMemoryOr (fault_at r.line (line_spans r.text) None) e) → IfErr result (λ e. IsMemoryOr (exclusions_fault bytes) e)
unfolding spans_fault
taken_here {bytes = bytes} {more = more} r result h cut fault =
    memory_or_first (fault_at r.line (line_spans r.text) None) (exclusions_fault bytes) result
    (λ e is. h.fault ∙ ap spans_fault cut ∙ fault_stops r.line (line_spans r.text) (spans_fault more) e is)
    fault

pub fault_end : {bytes : List ℕ} {lines : List Numbered} {done : List Span} → AreTaken bytes lines done → lines ≡ [] → exclusions_fault bytes ≡ None
unfolding spans_fault
fault_end h e = h.fault ∙ ap spans_fault e

pub spans_end : {bytes : List ℕ} {lines : List Numbered} {done : List Span} → AreTaken bytes lines done → lines ≡ [] → done ≡ spans_in bytes
unfolding spans_of
spans_end {done = done} h e = sym (append-nil done) ∙ ap (λ ls. done ++ spans_of ls) (sym e) ∙ h.spans

-- The first fault has a line.
at_has_line : (n : ℕ) (o : Option (List Span)) (rest : Option UcdFault) → IfSome rest (λ e. is_some (line_of e) ≡ true) → IfSome (fault_at n o rest) (λ e. is_some (line_of e) ≡ true)
at_has_line n None rest h = refl
at_has_line n (Some spans) rest h = h

spans_line : (lines : List Numbered) → IfSome (spans_fault lines) (λ e. is_some (line_of e) ≡ true)
unfolding spans_fault
spans_line [] = tt
spans_line (r ∷ lines) = at_has_line r.line (line_spans r.text) (spans_fault lines) (spans_line lines)

pub exclusions_line : (bytes : List ℕ) → IfSome (exclusions_fault bytes) (λ e. is_some (line_of e) ≡ true)
unfolding exclusions_fault
exclusions_line bytes = spans_line (data_lines_in bytes)
