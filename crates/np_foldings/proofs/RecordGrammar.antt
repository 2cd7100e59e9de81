-- The records of a file are those of the grammar, and no other list is.
use Rattle.std.proofs.Common.{◌≡◌, ◌≢◌, ℕ, suc, ◌<◌, Bool, true, false, cond, List, [], ◌∷◌, refl, sym, ap, subst, ◌∙◌, ⊎_elim, arith}
use Rattle.std.specs.List.{All, Contains}
use Rattle.std.proofs.lemmas.Bool.{true≢false}
use Rattle.std.proofs.lemmas.List.Elements.{All-nil, All-cons, All-head, All-tail}
use Rattle.std.proofs.lemmas.List.Kept.{AllPairs-cons}
use Rattle.np_code_points.specs.Lines.{Numbered, IsDataLine}
use Rattle.np_code_points.specs.inside.LineCuts.{is_empty, data_lines_in}
use Rattle.np_code_points.proofs.DataLineGrammar.{are_data_lines}
use Rattle.np_code_points.proofs.Elements.{contains_here, contains_more, contains_cases, contains_none, all_contained, Rises, same_lists}
use Rattle.np_ucd.specs.inside.ExclusionReading.{entry_text}
use Rattle.np_ucd.proofs.TextGrammar.{says_text, only_says}
use Rattle.np_foldings.specs.Records.{IsRecord, AreRecords}
use Rattle.np_foldings.specs.inside.FileReading.{records_of, records_in}

abbrev pub said_at : Numbered → Numbered
said_at r = record { line = r.line; text = entry_text r.text }

filled : (xs : List ℕ) → is_empty xs ≡ false → xs ≢ []
filled [] h e = true≢false h
filled (x ∷ xs) h e = absurd (cc)

not_empty : (xs : List ℕ) → (xs ≢ []) → is_empty xs ≡ false
not_empty [] h = absurd (h refl)
not_empty (x ∷ xs) h = refl

each_step : (t : Bool) (P : Numbered → Type 0) (r : Numbered) (rest : List Numbered) → (t ≡ false → P r) → All P rest → All P (cond t rest (r ∷ rest))
each_step true P r rest here h = h
each_step false P r rest here h = All-cons P r rest (here refl) h

each_of : (bytes : List ℕ) (lines : List Numbered) → All (IsDataLine bytes) lines → All (IsRecord bytes) (records_of lines)
unfolding records_of
each_of bytes [] h = All-nil (IsRecord bytes)
each_of bytes (r ∷ lines) h =
    each_step (is_empty (entry_text r.text)) (IsRecord bytes) (said_at r) (records_of lines)
    (λ e. record { line = r; is = All-head (IsDataLine bytes) r lines h; at = refl; says = says_text r.text; some = filled (entry_text r.text) e })
    (each_of bytes lines (All-tail (IsDataLine bytes) r lines h))

abbrev Above : ℕ → Numbered → Type 0
Above n r = n < r.line

above_of : (n : ℕ) (lines : List Numbered) → All (Above n) lines → All (Above n) (records_of lines)
unfolding records_of
above_of n [] h = All-nil (Above n)
above_of n (r ∷ lines) h =
    each_step (is_empty (entry_text r.text)) (Above n) (said_at r) (records_of lines) (λ e. All-head (Above n) r lines h) (above_of n lines (All-tail (Above n) r lines h))

abbrev InOrder : List Numbered → Type 0
InOrder lines = Rises Numbered (λ r. r.line) lines

rise_step : (t : Bool) (r : Numbered) (rest : List Numbered) → All (Above r.line) rest → InOrder rest → InOrder (cond t rest (r ∷ rest))
rise_step true r rest h ih = ih
rise_step false r rest h ih = AllPairs-cons (λ (r s : Numbered). r.line < s.line) r rest h ih

rise_of : (lines : List Numbered) → InOrder lines → InOrder (records_of lines)
unfolding records_of
rise_of [] h = λ i j d lt l. absurd (omega arith)
rise_of (r ∷ lines) h =
    let above : All (Above r.line) lines = λ k d l. h 0 (suc k) d (omega arith) (omega arith) in
    rise_step (is_empty (entry_text r.text)) (said_at r) (records_of lines) (above_of r.line lines above)
    (rise_of lines (λ i j d lt l. h (suc i) (suc j) d (omega arith) (omega arith)))

kept : (t : Bool) (r s : Numbered) (rest : List Numbered) → Contains rest s → Contains (cond t rest (r ∷ rest)) s
kept true r s rest h = h
kept false r s rest h = contains_more r s rest h

here : (t : Bool) (r : Numbered) (rest : List Numbered) → t ≡ false → Contains (cond t rest (r ∷ rest)) r
here true r rest e = absurd (true≢false e)
here false r rest e = contains_here r rest

all_of : (lines : List Numbered) (k : Numbered) → Contains lines k → (entry_text k.text ≢ []) → Contains (records_of lines) (said_at k)
unfolding records_of
all_of [] k in' some = absurd (contains_none k in')
all_of (r ∷ lines) k in' some =
    ⊎_elim
    (λ same. subst (λ (s : Numbered). Contains (records_of (r ∷ lines)) (said_at s)) same
    (here (is_empty (entry_text r.text)) (said_at r) (records_of lines) (not_empty (entry_text r.text) (λ e. some (ap (λ (s : Numbered). entry_text s.text) (sym same) ∙ e)))))
    (λ more. kept (is_empty (entry_text r.text)) (said_at r) (said_at k) (records_of lines) (all_of lines k more some))
    (contains_cases r k lines in')

said_is : (r line : Numbered) → line.line ≡ r.line → r.text ≡ entry_text line.text → said_at line ≡ r
said_is r line at says =
    ap (λ n. let s : Numbered = record { line = n; text = entry_text line.text } in s) at
    ∙ ap (λ t. let s : Numbered = record { line = r.line; text = t } in s) (sym says)

record_in : (bytes : List ℕ) (r : Numbered) (h : IsRecord bytes r) → Contains (records_of (data_lines_in bytes)) r
record_in bytes r h =
    let says : r.text ≡ entry_text h.line.text = only_says h.line.text r.text h.says in
    subst (Contains (records_of (data_lines_in bytes))) (said_is r h.line h.at says)
    (all_of (data_lines_in bytes) h.line ((are_data_lines bytes).all h.line h.is) (λ e. h.some (says ∙ e)))

pub are_records : (bytes : List ℕ) → AreRecords bytes (records_in bytes)
unfolding records_in
are_records bytes = record {
  rise = rise_of (data_lines_in bytes) (are_data_lines bytes).rise;
  each = each_of bytes (data_lines_in bytes) (are_data_lines bytes).each;
  all = record_in bytes;
}

pub only_records : (bytes : List ℕ) (records : List Numbered) → AreRecords bytes records → records ≡ records_in bytes
only_records bytes records h =
    let is = are_records bytes in
    same_lists Numbered (λ r. r.line) records (records_in bytes) h.rise is.rise
    (λ r in'. is.all r (all_contained (IsRecord bytes) records r h.each in'))
    (λ r in'. h.all r (all_contained (IsRecord bytes) (records_in bytes) r is.each in'))
