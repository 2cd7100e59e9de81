-- A text that is answered front by front.
use Rattle.std.proofs.Common.{◌≡◌, ℕ, ◌-◌, ◌≤◌, ◌||◌, List, [], ◌∷◌, ◌++◌, append_assoc, drop, length, length-append, take, IsUtf8}
use Rattle.std.proofs.Common.{sym, ap, ap₂, subst, ◌∙◌, arith}
use Rattle.std.proofs.lemmas.List.{drop_at, take-append-drop}
use Rattle.std.proofs.lemmas.List.Concat.{flat_map-append}
use Rattle.std.proofs.lemmas.List.Elements.{All-append}
use Rattle.std.proofs.lemmas.List.Folds.{list_any-append}
use Rattle.std.proofs.lemmas.Str.{IsUtf8-append}
use Rattle.std.specs.List.{AllZip}
use Rattle.std.specs.Str.{IsCharBoundary}
use Rattle.np_caseless.specs.Caseless.{IsCaseless}
use Rattle.np_caseless.specs.Folded.{FoldedVersion}
use Rattle.np_code_points.specs.Lines.{HasNo}
use Rattle.np_code_points.specs.declared.forms.Form.{Form}
use Rattle.np_forms.proofs.Words.{IsCharBoundary-at_seam, IsUtf8-drop}
use Rattle.np_lines.specs.Answers.{IsAnswerBy, is_refusal}
use Rattle.np_lines.specs.Lines.{byte_of, ended}
use Rattle.np_lines.specs.Pushed.{ArePushed}
use Rattle.np_lines.specs.declared.lines.LineEnd.{LineEnd}
use Rattle.np_lines.proofs.PushedLemmas.{pushed-part}
use Rattle.np_caseless_lines.specs.inside.Answered.{AreAnswered}

both_zipped : {A B : Type 0} (R : A → B → Type 0) (xs : List A) (ys : List B) (us : List A) (ws : List B) → AllZip R xs ys
    → AllZip R us ws → AllZip R (xs ++ us) (ys ++ ws)
both_zipped R [] [] us ws h k = k
both_zipped R [] (y ∷ ys) us ws h k = absurd h
both_zipped R (x ∷ xs) [] us ws h k = absurd h
both_zipped R (x ∷ xs) (y ∷ ys) us ws h k = (h.0, both_zipped R xs ys us ws h.1 k)

module _ (Is : List ℕ → List ℕ → Type 0) (end : LineEnd) where
  -- lines that are answered one behind the other
  pushed_both : (text rest later old mid new : List ℕ) → ArePushed Is end text rest old mid → ArePushed Is end rest later mid new
      → ArePushed Is end text later old new
  pushed_both text rest later old mid new p q =
      let joined : (xs ys : List (List ℕ)) → ended end (xs ++ ys) ≡ ended end xs ++ ended end ys =
      λ xs ys. flat_map-append (λ (line : List ℕ). line ++ byte_of end ∷ []) xs ys in
      record {
        lines = p.lines ++ q.lines;
        split =
            p.split
            ∙ ap (λ l. ended end p.lines ++ l) q.split
            ∙ sym (append_assoc (ended end p.lines) (ended end q.lines) later)
            ∙ ap (λ l. l ++ later) (sym (joined p.lines q.lines));
        apart = All-append (HasNo (byte_of end)) p.lines q.lines p.apart q.apart;
        answers = p.answers ++ q.answers;
        answers_are = both_zipped Is p.lines p.answers q.lines q.answers p.answers_are q.answers_are;
        out_is =
            q.out_is
            ∙ ap (λ l. l ++ ended end q.answers) p.out_is
            ∙ append_assoc old (ended end p.answers) (ended end q.answers)
            ∙ ap (λ l. old ++ l) (sym (joined p.answers q.answers));
        none_refused = list_any-append is_refusal p.answers q.answers ∙ ap₂ (λ a b. a || b) p.none_refused q.none_refused;
      }

-- Lines at the front of what a text was cut to were answered.
module _ (v : FoldedVersion) (form : Form) (end : LineEnd) (text front behind left old new : List ℕ) (n : ℕ) (first : front ≡ take n text)
    (later : behind ≡ drop n text) (p : AreAnswered v form end front left old new) where
  abbrev done : List ℕ
  done = ended end p.lines

  size : length done ≡ length front - length left
  size = omega (arith, ap length p.split, length-append done left)

  whole : text ≡ done ++ (left ++ behind)
  whole = sym (ap₂ (λ a b. a ++ b) first later ∙ take-append-drop n text) ∙ ap (λ l. l ++ behind) p.split ∙ append_assoc done left behind

  pub left_within : length left ≤ length front
  left_within = omega (arith, ap length p.split, length-append done left)

  pub left_boundary : IsUtf8 text → IsCharBoundary text n → IsUtf8 left → IsCharBoundary text (length front - length left)
  left_boundary utf8 at of_left =
      let of_behind = subst IsUtf8 (sym later) (IsUtf8-drop text n utf8 at) in
      subst (IsCharBoundary text) size (IsCharBoundary-at_seam text done (left ++ behind) whole (IsUtf8-append left behind of_left of_behind))

  pub left_answered : (rest : List ℕ) → rest ≡ drop (length front - length left) text → AreAnswered v form end text rest old new
  left_answered rest is =
      let n = length front - length left in
      let same : left ++ behind ≡ rest = sym (is ∙ ap (drop n) whole ∙ drop_at done (left ++ behind) n size) in
      pushed-part (IsAnswerBy (IsCaseless v form) v.version end) end front left rest old new p text (whole ∙ ap (λ l. done ++ l) same)

  -- behind those that were answered before
  pub more_answered : (all rest before : List ℕ) → rest ≡ drop (length front - length left) text
      → AreAnswered v form end all text before old → AreAnswered v form end all rest before new
  more_answered all rest before is answered =
      pushed_both (IsAnswerBy (IsCaseless v form) v.version end) end all text rest before old new answered (left_answered rest is)
