-- How the records of a file are read one after another.
use Rattle.std.proofs.Common.{◌≡◌, ℕ, true, false, cond, List, [], ◌∷◌, ◌++◌, Option, Some, None, Result, IfErr, sym, ap, ◌∙◌}
use Rattle.std.specs.Option.{option_or}
use Rattle.std.proofs.lemmas.List.{append-nil}
use Rattle.np_code_points.specs.Lines.{Numbered}
use Rattle.np_code_points.specs.inside.LineCuts.{data_lines_in}
use Rattle.np_ucd.specs.Entries.{Entry}
use Rattle.np_ucd.specs.Tests.{UcdFault}
use Rattle.np_ucd.specs.inside.FileReading.{end_fault, fault_after, rows_after, first_fault, rows_in}
use Rattle.np_ucd.specs.inside.RecordReading.{Neighbour, neighbour_of, opens, record_fault, row_of, record_rows}
use Rattle.np_ucd.specs.inside.RecordValues.{IsMemoryOr}
use Rattle.np_ucd.proofs.WalkLemmas.{grown_next, memory_or_first}

-- How far the records are read: the rows so far and those of the records that are left are the file's, and its first
-- fault is theirs.
pub record AreTaken (bytes : List ℕ) (b : Option Neighbour) (lines : List Numbered) (done : List Entry) : Type 0 where
  pub fault : first_fault bytes ≡ fault_after b lines
  pub rows : done ++ rows_after b lines ≡ rows_in bytes

pub taken_begin : {bytes : List ℕ} {lines : List Numbered} {done : List Entry} → lines ≡ data_lines_in bytes → done ≡ [] → AreTaken bytes None lines done
unfolding first_fault rows_in
taken_begin {lines = lines} all none = record {
  fault = ap (fault_after None) (sym all);
  rows = ap (λ rows. rows ++ rows_after None lines) none ∙ ap (rows_after None) all;
}

pub taken_next : {bytes : List ℕ} {b next : Option Neighbour} {lines more : List Numbered} {done grown : List Entry} (r : Numbered) → AreTaken bytes b lines done → lines ≡ r ∷ more → record_fault b r.line r.text ≡ None → next ≡ Some (neighbour_of r.line r.text) → grown ≡ done ++ record_rows b r.text → AreTaken bytes next more grown
unfolding fault_after rows_after
taken_next {b = b} {next = next} {more = more} {done = done} r h cut fine after grows = record {
  fault = h.fault ∙ ap (fault_after b) cut
      ∙ ap (λ f. option_or f (fault_after (Some (neighbour_of r.line r.text)) more)) fine
      ∙ ap (λ n. fault_after n more) (sym after);
  rows = grown_next done (record_rows b r.text) (rows_after next more) h.rows (ap (rows_after b) cut ∙ ap (λ n. record_rows b r.text ++ rows_after n more) (sym after)) grows;
}

pub taken_here : {bytes : List ℕ} {b : Option Neighbour} {lines more : List Numbered} {done : List Entry} {T : Type 0} (r : Numbered) (result : Result T UcdFault) → AreTaken bytes b lines done → lines ≡ r ∷ more → IfErr result (λ e. IsMemoryOr (record_fault b r.line r.text) e) → IfErr result (λ e. IsMemoryOr (first_fault bytes) e)
unfolding fault_after
taken_here {bytes = bytes} {b = b} {more = more} r result h cut fault =
    memory_or_first (record_fault b r.line r.text) (first_fault bytes) result
    (λ e is. h.fault ∙ ap (fault_after b) cut ∙ ap (λ f. option_or f (fault_after (Some (neighbour_of r.line r.text)) more)) is)
    fault

pub fault_end : {bytes : List ℕ} {b : Option Neighbour} {lines : List Numbered} {done : List Entry} → AreTaken bytes b lines done → lines ≡ [] → first_fault bytes ≡ end_fault b
unfolding fault_after
fault_end {b = b} h e = h.fault ∙ ap (fault_after b) e

pub rows_end : {bytes : List ℕ} {b : Option Neighbour} {lines : List Numbered} {done : List Entry} → AreTaken bytes b lines done → lines ≡ [] → done ≡ rows_in bytes
unfolding rows_after
rows_end {b = b} {done = done} h e = sym (append-nil done) ∙ ap (λ ls. done ++ rows_after b ls) (sym e) ∙ h.rows

neighbour_opens : (line : ℕ) (text : List ℕ) (n : Neighbour) → n ≡ neighbour_of line text → n.opens ≡ opens text
unfolding neighbour_of
neighbour_opens line text n h = ap (λ (m : Neighbour). m.opens) h

-- a record that begins a range adds no row, another one its own
pub opening_adds : (line : ℕ) (text : List ℕ) (b : Option Neighbour) (n : Neighbour) (row : Entry) (done : List Entry) → n ≡ neighbour_of line text → n.opens ≡ true → done ≡ done ++ record_rows b text
opening_adds line text b n row done h e =
    sym (append-nil done) ∙ ap (λ t. done ++ cond t [] (row_of b text ∷ [])) (sym e ∙ neighbour_opens line text n h)

pub record_adds : (line : ℕ) (text : List ℕ) (b : Option Neighbour) (n : Neighbour) (row : Entry) (done grown : List Entry) → n ≡ neighbour_of line text → n.opens ≡ false → row ≡ row_of b text → grown ≡ done ++ row ∷ [] → grown ≡ done ++ record_rows b text
record_adds line text b n row done grown h e is g =
    g ∙ ap (λ r. done ++ r ∷ []) is ∙ ap (λ t. done ++ cond t [] (row_of b text ∷ [])) (sym e ∙ neighbour_opens line text n h)
