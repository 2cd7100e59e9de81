-- The data lines of a file are those of the grammar.
use Rattle.std.proofs.Common.{◌≡◌, ℕ, ◌+◌, ◌<◌, Bool, true, false, cond, eqb, List, [], ◌∷◌, ◌++◌, length, get_or, refl, sym, ap, subst, ◌∙◌, inl, inr, ⊎_elim, arith}
use Rattle.std.specs.List.{All, Contains, list_all}
use Rattle.std.proofs.lemmas.Bool.{eqb-true, both_ways, cond-true, cond-false, or_cases, or_left, or_right, false_from_ne_true}
use Rattle.std.proofs.lemmas.List.Elements.{All-nil, All-cons}
use Rattle.std.proofs.lemmas.List.Kept.{AllPairs-cons}
use Rattle.np_code_points.specs.Lines.{Numbered, AreLines, DropsReturn, IsSkipped, IsDataLine, AreDataLines}
use Rattle.np_code_points.specs.inside.LineCuts.{lines_of, without_return, is_blank, is_comment, is_skipped, if_data, data_lines_from, data_lines_in}
use Rattle.np_code_points.proofs.BlankLemmas.{true_blanks, blanks_true}
use Rattle.np_code_points.proofs.Elements.{contains_here, contains_more, all_contained, Rises, same_lists}
use Rattle.np_code_points.proofs.LineGrammar.{are_lines, only_lines, drops_return, only_text}

-- The lines that are skipped.
comment_from : (text : List ℕ) → is_comment text ≡ true → (rest : List ℕ) × (text ≡ 35 ∷ rest)
comment_from [] h = absurd (cc)
comment_from (x ∷ xs) h = (xs, ap (λ b. b ∷ xs) (eqb-true x 35 h))

is_skipped_line : (text : List ℕ) → is_skipped text ≡ true → IsSkipped text
unfolding is_skipped
is_skipped_line text h =
    ⊎_elim (λ e. inl (true_blanks text e)) (λ e. inr (comment_from text e)) (or_cases (list_all is_blank text) (is_comment text) h)

skipped : (text : List ℕ) → IsSkipped text → is_skipped text ≡ true
unfolding is_skipped
skipped text h =
    ⊎_elim
    (λ blanks. or_left (list_all is_blank text) (is_comment text) (blanks_true text blanks))
    (λ comment. or_right (list_all is_blank text) (is_comment text) (ap is_comment comment.1))
    h

-- The data lines from a line on.
record DataAt (n : ℕ) (lines : List (List ℕ)) (r : Numbered) : Type 0 where
  before : List (List ℕ)
  line : List ℕ
  behind : List (List ℕ)
  stands : lines ≡ before ++ line ∷ behind
  counted : r.line ≡ length before + n
  returned : DropsReturn line r.text
  counts : IsSkipped r.text → ⊥

later : (n : ℕ) (x : List ℕ) (lines : List (List ℕ)) (r : Numbered) → DataAt (n + 1) lines r → DataAt n (x ∷ lines) r
later n x lines r h = record {
  before = x ∷ h.before;
  line = h.line;
  behind = h.behind;
  stands = ap (λ ls. x ∷ ls) h.stands;
  counted = omega (arith, h.counted);
  returned = h.returned;
  counts = h.counts;
}

here : (n : ℕ) (x : List ℕ) (lines : List (List ℕ)) → is_skipped (without_return x) ≡ false → DataAt n (x ∷ lines) (record { line = n; text = without_return x })
here n x lines e = record {
  before = [];
  line = x;
  behind = lines;
  stands = refl;
  counted = omega arith;
  returned = drops_return x;
  counts = λ h. both_ways (is_skipped (without_return x)) e (skipped (without_return x) h);
}

each_step : (s : Bool) (n : ℕ) (x : List ℕ) (lines : List (List ℕ)) (found : List Numbered) → is_skipped (without_return x) ≡ s → All (DataAt (n + 1) lines) found → All (DataAt n (x ∷ lines)) (cond s found (record { line = n; text = without_return x } ∷ found))
each_step true n x lines found e h = λ k d l. later n x lines (get_or found k d) (h k d l)
each_step false n x lines found e h =
    All-cons (DataAt n (x ∷ lines)) (record { line = n; text = without_return x }) found (here n x lines e)
    (λ k d l. later n x lines (get_or found k d) (h k d l))

each_from : (n : ℕ) (lines : List (List ℕ)) → All (DataAt n lines) (data_lines_from n lines)
unfolding data_lines_from
each_from n [] = All-nil (DataAt n [])
each_from n (x ∷ lines) =
    each_step (is_skipped (without_return x)) n x lines (data_lines_from (n + 1) lines) refl (each_from (n + 1) lines)

rise_step : (s : Bool) (n : ℕ) (text : List ℕ) (lines : List (List ℕ)) (found : List Numbered) → All (DataAt (n + 1) lines) found → Rises Numbered (λ r. r.line) found → Rises Numbered (λ r. r.line) (cond s found (record { line = n; text = text } ∷ found))
rise_step true n text lines found h ih = ih
rise_step false n text lines found h ih =
    AllPairs-cons (λ (r s : Numbered). r.line < s.line) (record { line = n; text = text }) found
    (λ k d l. let at = (h k d l).counted in omega (arith, at)) ih

rise_from : (n : ℕ) (lines : List (List ℕ)) → Rises Numbered (λ r. r.line) (data_lines_from n lines)
unfolding data_lines_from
rise_from n [] = λ i j d lt l. absurd (omega arith)
rise_from n (x ∷ lines) =
    rise_step (is_skipped (without_return x)) n (without_return x) lines (data_lines_from (n + 1) lines) (each_from (n + 1) lines) (rise_from (n + 1) lines)

kept : (s : Bool) (n : ℕ) (text : List ℕ) (found : List Numbered) (r : Numbered) → Contains found r → Contains (cond s found (record { line = n; text = text } ∷ found)) r
kept true n text found r h = h
kept false n text found r h = contains_more (record { line = n; text = text }) r found h

all_from : (n : ℕ) (before : List (List ℕ)) (line : List ℕ) (behind : List (List ℕ)) (r : Numbered) → r.line ≡ length before + n → DropsReturn line r.text → (IsSkipped r.text → ⊥) → Contains (data_lines_from n (before ++ line ∷ behind)) r
unfolding data_lines_from
all_from n [] line behind r counted returned counts =
    let rest = data_lines_from (n + 1) behind in
    let number : n ≡ r.line = omega arith in
    let is : data_lines_from n (line ∷ behind) ≡ r ∷ rest =
    ap (λ t. if_data n t rest) (sym (only_text line r.text returned))
    ∙ cond-false (is_skipped r.text) rest (record { line = n; text = r.text } ∷ rest) (false_from_ne_true (is_skipped r.text) (λ e. counts (is_skipped_line r.text e)))
    ∙ ap (λ k. record { line = k; text = r.text } ∷ rest) number in
    subst (λ rs. Contains rs r) (sym is) (contains_here r rest)
all_from n (x ∷ before) line behind r counted returned counts =
    kept (is_skipped (without_return x)) n (without_return x) (data_lines_from (n + 1) (before ++ line ∷ behind)) r
    (all_from (n + 1) before line behind r (omega arith) returned counts)

-- The data lines of a file.
data_line : (bytes : List ℕ) (r : Numbered) → DataAt 1 (lines_of bytes) r → IsDataLine bytes r
data_line bytes r h = record {
  before = h.before;
  line = h.line;
  behind = h.behind;
  lines = subst (AreLines bytes) h.stands (are_lines bytes);
  counted = h.counted;
  returned = h.returned;
  counts = h.counts;
}

pub are_data_lines : (bytes : List ℕ) → AreDataLines bytes (data_lines_in bytes)
unfolding data_lines_in
are_data_lines bytes = record {
  rise = rise_from 1 (lines_of bytes);
  each = λ k d l. data_line bytes _ (each_from 1 (lines_of bytes) k d l);
  all = λ r h. subst (λ ls. Contains (data_lines_from 1 ls) r) (only_lines bytes (h.before ++ h.line ∷ h.behind) h.lines)
      (all_from 1 h.before h.line h.behind r h.counted h.returned h.counts);
}

pub only_data_lines : (bytes : List ℕ) (found : List Numbered) → AreDataLines bytes found → found ≡ data_lines_in bytes
only_data_lines bytes found h =
    let is = are_data_lines bytes in
    same_lists Numbered (λ r. r.line) found (data_lines_in bytes) h.rise is.rise
    (λ r in'. is.all r (all_contained (IsDataLine bytes) found r h.each in'))
    (λ r in'. h.all r (all_contained (IsDataLine bytes) (data_lines_in bytes) r is.each in'))

-- What a walk has left at its begin, behind a line, and at its end.
pub line_left : (n : ℕ) (lines more : List (List ℕ)) (front text : List ℕ) → lines ≡ front ∷ more → text ≡ without_return front → data_lines_from n lines ≡ if_data n text (data_lines_from (n + 1) more)
unfolding data_lines_from
line_left n lines more front text h e = ap (data_lines_from n) h ∙ ap (λ t. if_data n t (data_lines_from (n + 1) more)) (sym e)

pub total_left : (n : ℕ) (lines more : List (List ℕ)) (front : List ℕ) → lines ≡ front ∷ more → n + 1 + length more ≡ n + length lines
total_left n lines more front h = omega (arith, ap length h)

pub none_left : (n : ℕ) (rest : List ℕ) → eqb (length rest) 0 ≡ true → data_lines_from n (lines_of rest) ≡ []
unfolding data_lines_from lines_of
none_left n [] e = refl
none_left n (x ∷ xs) e = absurd (omega (arith, eqb-true (length (x ∷ xs)) 0 e))

pub no_line_left : (rest : List ℕ) → eqb (length rest) 0 ≡ true → lines_of rest ≡ []
unfolding lines_of
no_line_left [] e = refl
no_line_left (x ∷ xs) e = absurd (omega (arith, eqb-true (length (x ∷ xs)) 0 e))

pub walk_begins : (bytes : List ℕ) → data_lines_from 1 (lines_of bytes) ≡ data_lines_in bytes
unfolding data_lines_in
walk_begins bytes = refl

-- A line is taken, or skipped.
pub line_taken : (n : ℕ) (lines more : List (List ℕ)) (front text : List ℕ) → lines ≡ front ∷ more → text ≡ without_return front → is_skipped text ≡ false → data_lines_from n lines ≡ record { line = n; text = text } ∷ data_lines_from (n + 1) more
line_taken n lines more front text h e data' =
    line_left n lines more front text h e
    ∙ cond-false (is_skipped text) (data_lines_from (n + 1) more) (record { line = n; text = text } ∷ data_lines_from (n + 1) more) data'

pub line_skipped : (n : ℕ) (lines more : List (List ℕ)) (front text : List ℕ) → lines ≡ front ∷ more → text ≡ without_return front → is_skipped text ≡ true → data_lines_from n lines ≡ data_lines_from (n + 1) more
line_skipped n lines more front text h e none =
    line_left n lines more front text h e
    ∙ cond-true (is_skipped text) (data_lines_from (n + 1) more) (record { line = n; text = text } ∷ data_lines_from (n + 1) more) none
