-- How the lines of a file are read one after another.
use Rattle.std.proofs.Common.{◌≡◌, ℕ, Bool, true, false, cond, eqb, List, [], ◌∷◌, ◌++◌, length, Option, Some, None, Result, Ok, Err, IfErr, refl, sym, ap, ◌∙◌, inl, inr, ⊎_elim, append_assoc}
use Rattle.std.proofs.lemmas.Bool.{cond-true, cond-false}
use Rattle.std.proofs.lemmas.List.{append-nil}
use Rattle.np_code_points.specs.Lines.{Numbered}
use Rattle.np_code_points.specs.inside.LineCuts.{is_empty, data_lines_in}
use Rattle.np_code_points.proofs.ValueGrammar.{is_empty-length}
use Rattle.np_ucd.specs.inside.ExclusionReading.{entry_text}
use Rattle.np_foldings.specs.Faults.{FoldingFault}
use Rattle.np_foldings.specs.Fields.{Head}
use Rattle.np_foldings.specs.Foldings.{Folding}
use Rattle.np_foldings.specs.inside.FileReading.{onto, and_rest, at_line, next_head, verdict_after, records_of, records_in, verdict_in, line_verdict, head_behind}
use Rattle.np_foldings.specs.inside.RecordReading.{Record, judged, foldings_of}
use Rattle.np_foldings.specs.inside.RecordValues.{IsMemoryOr, IsMemoryOrErr}

abbrev Verdict : Type 0
Verdict = Result (List Folding) FoldingFault

onto_none : (v : Verdict) → onto [] v ≡ v
onto_none (Ok xs) = refl
onto_none (Err e) = refl

onto_twice : (xs ys : List Folding) (v : Verdict) → onto xs (onto ys v) ≡ onto (xs ++ ys) v
onto_twice xs ys (Ok zs) = ap Ok (sym (append_assoc xs ys zs))
onto_twice xs ys (Err e) = refl

-- What one line adds.
abbrev numbered_at : ℕ → List ℕ → Numbered
numbered_at line text = record { line = line; text = text }

line_cases : (t : Bool) (b : Option Head) (line : ℕ) (text : List ℕ) (more : List Numbered) → verdict_after b (cond t more (numbered_at line text ∷ more)) ≡ and_rest (cond t (Ok []) (at_line line (judged b text))) (verdict_after (cond t b (next_head (judged b text))) more)
unfolding verdict_after
line_cases true b line text more = sym (onto_none (verdict_after b more))
line_cases false b line text more = refl

line_step : (b : Option Head) (r : Numbered) (more : List Numbered) → verdict_after b (records_of (r ∷ more)) ≡ and_rest (line_verdict b r.line r.text) (verdict_after (head_behind b r.text) (records_of more))
unfolding records_of line_verdict head_behind
line_step b r more = line_cases (is_empty (entry_text r.text)) b r.line (entry_text r.text) (records_of more)

-- How far the lines are read: the foldings so far, and what the lines that are left say behind them.
pub record AreTaken (bytes : List ℕ) (b : Option Head) (lines : List Numbered) (done : List Folding) : Type 0 where
  pub total : verdict_in bytes ≡ onto done (verdict_after b (records_of lines))

pub taken_begin : {bytes : List ℕ} {lines : List Numbered} {done : List Folding} → lines ≡ data_lines_in bytes → done ≡ [] → AreTaken bytes None lines done
unfolding verdict_in records_in
taken_begin {lines = lines} all none = record {
  total = ap (λ ls. verdict_after None (records_of ls)) (sym all)
      ∙ sym (onto_none (verdict_after None (records_of lines)))
      ∙ ap (λ xs. onto xs (verdict_after None (records_of lines))) (sym none);
}

ok_grown : (done grown : List Folding) (v rest : Verdict) → onto done v ≡ Ok grown → onto done (and_rest v rest) ≡ onto grown rest
ok_grown done grown (Ok xs) rest h =
    let same : done ++ xs ≡ grown = cc in
    onto_twice done xs rest ∙ ap (λ ys. onto ys rest) same
ok_grown done grown (Err e) rest h = absurd (cc)

pub taken_next : {bytes : List ℕ} {b next : Option Head} {lines more : List Numbered} {done grown : List Folding} (r : Numbered) → AreTaken bytes b lines done → lines ≡ r ∷ more → next ≡ head_behind b r.text → onto done (line_verdict b r.line r.text) ≡ Ok grown → AreTaken bytes next more grown
taken_next {b = b} {next = next} {more = more} {done = done} {grown = grown} r h cut after grows = record {
  total = h.total
      ∙ ap (λ ls. onto done (verdict_after b (records_of ls))) cut
      ∙ ap (onto done) (line_step b r more)
      ∙ ok_grown done grown (line_verdict b r.line r.text) (verdict_after (head_behind b r.text) (records_of more)) grows
      ∙ ap (λ n. onto grown (verdict_after n (records_of more))) (sym after);
}

err_here : (done : List Folding) (v rest : Verdict) (e : FoldingFault) → v ≡ Err e → onto done (and_rest v rest) ≡ Err e
err_here done v rest e h = ap (λ w. onto done (and_rest w rest)) h

pub taken_here : {bytes : List ℕ} {b : Option Head} {lines more : List Numbered} {done : List Folding} {T : Type 0} (r : Numbered) (result : Result T FoldingFault) → AreTaken bytes b lines done → lines ≡ r ∷ more → IfErr result (λ e. IsMemoryOrErr (line_verdict b r.line r.text) e) → IfErr result (λ e. IsMemoryOrErr (verdict_in bytes) e)
taken_here r (Ok x) h cut fault = tt
taken_here {b = b} {more = more} {done = done} r (Err e) h cut fault =
    ⊎_elim (λ m. inl m)
    (λ same. inr (h.total ∙ ap (λ ls. onto done (verdict_after b (records_of ls))) cut ∙ ap (onto done) (line_step b r more)
    ∙ err_here done (line_verdict b r.line r.text) (verdict_after (head_behind b r.text) (records_of more)) e same))
    fault

pub taken_end : {bytes : List ℕ} {b : Option Head} {lines : List Numbered} {done : List Folding} → AreTaken bytes b lines done → lines ≡ [] → verdict_in bytes ≡ Ok done
unfolding verdict_after records_of
taken_end {b = b} {done = done} h e =
    h.total ∙ ap (λ ls. onto done (verdict_after b (records_of ls))) e ∙ ap Ok (append-nil done)

-- A line that says nothing, and one that holds a record.
module _ (b : Option Head) (line : ℕ) (bytes text : List ℕ) (says : text ≡ entry_text bytes) where
  blank : (t : Bool) → eqb (length text) 0 ≡ t → is_empty (entry_text bytes) ≡ t
  blank t e = ap is_empty (sym says) ∙ is_empty-length text ∙ e

  pub nothing_behind : eqb (length text) 0 ≡ true → b ≡ head_behind b bytes
  unfolding head_behind
  nothing_behind e = sym (cond-true (is_empty (entry_text bytes)) b (next_head (judged b (entry_text bytes))) (blank true e))

  pub nothing_added : eqb (length text) 0 ≡ true → (done : List Folding) → onto done (line_verdict b line bytes) ≡ Ok done
  unfolding line_verdict
  nothing_added e done =
      ap (onto done) (cond-true (is_empty (entry_text bytes)) (Ok []) (at_line line (judged b (entry_text bytes))) (blank true e)) ∙ ap Ok (append-nil done)

  record_verdict : eqb (length text) 0 ≡ false → line_verdict b line bytes ≡ at_line line (judged b text)
  unfolding line_verdict
  record_verdict e =
      cond-false (is_empty (entry_text bytes)) (Ok []) (at_line line (judged b (entry_text bytes))) (blank false e)
      ∙ ap (λ t. at_line line (judged b t)) (sym says)

  pub record_behind : eqb (length text) 0 ≡ false → (r : Record) → judged b text ≡ Ok r → Some r.head ≡ head_behind b bytes
  unfolding head_behind
  record_behind e r h = sym (
      cond-false (is_empty (entry_text bytes)) b (next_head (judged b (entry_text bytes))) (blank false e)
      ∙ ap (λ t. next_head (judged b t)) (sym says) ∙ ap next_head h
      )

  pub record_added : eqb (length text) 0 ≡ false → (r : Record) → judged b text ≡ Ok r → (done : List Folding) → onto done (line_verdict b line bytes) ≡ Ok (done ++ foldings_of r)
  record_added e r h done = ap (onto done) (record_verdict e ∙ ap (at_line line) h)

  record_fault : eqb (length text) 0 ≡ false → (e : FoldingFault) → IsMemoryOr line (judged b text) e → IsMemoryOrErr (line_verdict b line bytes) e
  record_fault filled e h =
      ⊎_elim (λ m. inl m) (λ is. inr (record_verdict filled ∙ ap (at_line line) is.1 ∙ ap Err (sym is.2))) h

  pub record_faults : {T : Type 0} → eqb (length text) 0 ≡ false → (result : Result T FoldingFault) → IfErr result (λ e. IsMemoryOr line (judged b text) e) → IfErr result (λ e. IsMemoryOrErr (line_verdict b line bytes) e)
  record_faults filled (Ok x) h = tt
  record_faults filled (Err e) h = record_fault filled e h
