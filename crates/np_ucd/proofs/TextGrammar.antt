-- What a line of CompositionExclusions.txt says, by the grammar.
use Rattle.std.proofs.Common.{◌≡◌, ℕ, Bool, true, false, cond, List, [], ◌∷◌, ◌++◌, Option, Some, None, refl, sym, ap, subst, ◌∙◌, inl, inr, ⊎_elim, append_assoc}
use Rattle.std.specs.List.{list_all}
use Rattle.std.proofs.lemmas.Bool.{both_ways}
use Rattle.std.proofs.lemmas.List.{append-nil}
use Rattle.std.proofs.lemmas.List.Elements.{All-nil, All-cons, All-head, All-tail}
use Rattle.np_code_points.specs.Lines.{IsBlank, AreBlanks}
use Rattle.np_code_points.specs.declared.words.Dividers.TheVariants.{Blanks}
use Rattle.np_code_points.specs.inside.LineCuts.{before_byte, after_byte, is_blank}
use Rattle.np_code_points.specs.inside.WordCuts.{divides, after_all}
use Rattle.np_code_points.proofs.BlankLemmas.{blank_true, true_blank, blank_false, true_blanks, blanks_true}
use Rattle.np_code_points.proofs.LineGrammar.{before_free, joined_some, joined_none, before_at, after_none, ended_filled}
use Rattle.np_ucd.specs.Exclusions.{StandsBefore, IsTrimmed, SaysText}
use Rattle.np_ucd.specs.inside.ExclusionReading.{before_blanks, entry_text}
use Rattle.np_ucd.proofs.ExclusionLemmas.{back_blank, back_other}

-- What is left behind the blanks at the begin.
record LeavesBehind (bytes rest : List ℕ) : Type 0 where
  front : List ℕ
  blank : AreBlanks front
  stands : bytes ≡ front ++ rest
  begins : (b : ℕ) (more : List ℕ) → rest ≡ b ∷ more → IsBlank b → ⊥

behind_step : (t : Bool) (x : ℕ) (xs rest : List ℕ) → is_blank x ≡ t → LeavesBehind xs rest → LeavesBehind (x ∷ xs) (cond t rest (x ∷ xs))
behind_step true x xs rest e h = record {
  front = x ∷ h.front;
  blank = All-cons IsBlank x h.front (true_blank x e) h.blank;
  stands = ap (λ r. x ∷ r) h.stands;
  begins = h.begins;
}
behind_step false x xs rest e h = record {
  front = [];
  blank = All-nil IsBlank;
  stands = refl;
  begins = λ b more same is. let head : b ≡ x = cc in both_ways (is_blank x) e (blank_true x (subst IsBlank head is));
}

leaves_behind : (bytes : List ℕ) → LeavesBehind bytes (after_all (divides Blanks) bytes)
leaves_behind [] = record { front = []; blank = All-nil IsBlank; stands = refl; begins = λ b more same is. absurd (cc) }
leaves_behind (x ∷ xs) = behind_step (is_blank x) x xs (after_all (divides Blanks) xs) refl (leaves_behind xs)

-- What is left before the blanks at the end.
record LeavesBefore (bytes rest : List ℕ) : Type 0 where
  back : List ℕ
  blank : AreBlanks back
  stands : bytes ≡ rest ++ back
  ends : (more : List ℕ) (b : ℕ) → rest ≡ more ++ b ∷ [] → IsBlank b → ⊥

ends_more : (x : ℕ) (xs rest : List ℕ) → list_all is_blank (x ∷ xs) ≡ false → LeavesBefore xs rest → (more : List ℕ) (b : ℕ) → x ∷ rest ≡ more ++ b ∷ [] → IsBlank b → ⊥
ends_more x xs rest e h [] b same is =
    let head : b ≡ x = cc in
    let none : rest ≡ [] = cc in
    let all : xs ≡ h.back = h.stands ∙ ap (λ r. r ++ h.back) none in
    both_ways (list_all is_blank (x ∷ xs)) e
    (blanks_true (x ∷ xs) (All-cons IsBlank x xs (subst IsBlank head is) (subst AreBlanks (sym all) h.blank)))
ends_more x xs rest e h (m ∷ more) b same is = let tail : rest ≡ more ++ b ∷ [] = cc in h.ends more b tail is

before_step : (t : Bool) (x : ℕ) (xs rest : List ℕ) → list_all is_blank (x ∷ xs) ≡ t → LeavesBefore xs rest → LeavesBefore (x ∷ xs) (cond t [] (x ∷ rest))
before_step true x xs rest e h = record {
  back = x ∷ xs;
  blank = true_blanks (x ∷ xs) e;
  stands = refl;
  ends = λ more b same is. ended_filled more b [] (sym same);
}
before_step false x xs rest e h = record {
  back = h.back;
  blank = h.blank;
  stands = ap (λ r. x ∷ r) h.stands;
  ends = ends_more x xs rest e h;
}

leaves_before : (bytes : List ℕ) → LeavesBefore bytes (before_blanks bytes)
leaves_before [] = record { back = []; blank = All-nil IsBlank; stands = refl; ends = λ more b same is. ended_filled more b [] (sym same) }
leaves_before (x ∷ xs) = before_step (list_all is_blank (x ∷ xs)) x xs (before_blanks xs) refl (leaves_before xs)

-- The text between them, and no other.
is_trimmed : (bytes : List ℕ) → IsTrimmed bytes (before_blanks (after_all (divides Blanks) bytes))
is_trimmed bytes =
    let f = leaves_behind bytes in
    let k = leaves_before (after_all (divides Blanks) bytes) in
    record {
      front = f.front;
      back = k.back;
      stands = f.stands ∙ ap (λ r. f.front ++ r) k.stands;
      front_blank = f.blank;
      back_blank = k.blank;
      begins = λ b rest e is. f.begins b (rest ++ k.back) (k.stands ∙ ap (λ r. r ++ k.back) e) is;
      ends = k.ends;
    }

after_front : (front rest : List ℕ) → AreBlanks front → after_all (divides Blanks) (front ++ rest) ≡ after_all (divides Blanks) rest
after_front [] rest h = refl
after_front (x ∷ front) rest h =
    ap (λ t. cond t (after_all (divides Blanks) (front ++ rest)) (x ∷ front ++ rest)) (blank_true x (All-head IsBlank x front h))
    ∙ after_front front rest (All-tail IsBlank x front h)

before_back : (text back : List ℕ) → AreBlanks back → before_blanks (text ++ back) ≡ before_blanks text
before_back text [] h = ap before_blanks (append-nil text)
before_back text (x ∷ back) h =
    ap before_blanks (sym (append_assoc text (x ∷ []) back))
    ∙ before_back (text ++ x ∷ []) back (All-tail IsBlank x back h)
    ∙ back_blank text x (blank_true x (All-head IsBlank x back h))

kept_from : (front : List ℕ) (x : ℕ) (rest : List ℕ) → ((more : List ℕ) (b : ℕ) → front ++ x ∷ rest ≡ more ++ b ∷ [] → IsBlank b → ⊥) → before_blanks (front ++ x ∷ rest) ≡ front ++ x ∷ rest
kept_from front x [] h = back_other front x (blank_false x (h front x refl))
kept_from front x (y ∷ rest) h =
    let same = append_assoc front (x ∷ []) (y ∷ rest) in
    sym (ap before_blanks same) ∙ kept_from (front ++ x ∷ []) y rest (λ more b e. h more b (sym same ∙ e)) ∙ same

kept : (text back : List ℕ) → AreBlanks back → ((b : ℕ) (rest : List ℕ) → text ≡ b ∷ rest → IsBlank b → ⊥) → ((rest : List ℕ) (b : ℕ) → text ≡ rest ++ b ∷ [] → IsBlank b → ⊥) → before_blanks (after_all (divides Blanks) (text ++ back)) ≡ text
kept [] back blank begins ends =
    ap (λ r. before_blanks (after_all (divides Blanks) r)) (sym (append-nil back)) ∙ ap before_blanks (after_front back [] blank)
kept (x ∷ text) back blank begins ends =
    ap (λ t. before_blanks (cond t (after_all (divides Blanks) (text ++ back)) (x ∷ text ++ back))) (blank_false x (begins x text refl))
    ∙ before_back (x ∷ text) back blank
    ∙ kept_from [] x text ends

only_trimmed : (bytes text : List ℕ) → IsTrimmed bytes text → text ≡ before_blanks (after_all (divides Blanks) bytes)
only_trimmed bytes text h = sym (
    ap (λ r. before_blanks (after_all (divides Blanks) r)) h.stands
    ∙ ap before_blanks (after_front h.front (text ++ h.back) h.front_blank)
    ∙ kept text h.back h.back_blank h.begins h.ends
    )

-- What stands before a comment.
before_cases : (b : ℕ) (xs : List ℕ) (o : Option (List ℕ)) → after_byte b xs ≡ o → StandsBefore b xs (before_byte b xs)
before_cases b xs (Some rest) h = (before_free b xs, inr (rest, joined_some b xs rest h))
before_cases b xs None h = (before_free b xs, inl (joined_none b xs h))

only_before : (b : ℕ) (xs front : List ℕ) → StandsBefore b xs front → front ≡ before_byte b xs
only_before b xs front h =
    ⊎_elim
    (λ same. joined_none b front (after_none b front h.0) ∙ ap (before_byte b) (sym same))
    (λ more. sym (before_at b front more.0 h.0) ∙ ap (before_byte b) (sym more.1))
    h.1

pub says_text : (line : List ℕ) → SaysText line (entry_text line)
says_text line = record {
  entry = before_byte 35 line;
  uncommented = before_cases 35 line (after_byte 35 line) refl;
  trimmed = is_trimmed (before_byte 35 line);
}

pub only_says : (line text : List ℕ) → SaysText line text → text ≡ entry_text line
only_says line text h =
    only_trimmed h.entry text h.trimmed
    ∙ ap (λ r. before_blanks (after_all (divides Blanks) r)) (only_before 35 line h.entry h.uncommented)
