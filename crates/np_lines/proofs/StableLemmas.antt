-- Lines that have stabilized strings, and those of a text of which each part is its own.
use Rattle.std.proofs.Common.{◌≡◌, ℕ, ◌≤◌, ◌+◌, ◌-◌, List, [], ◌∷◌, ◌++◌, length, chars, take, drop, IsUtf8, refl, sym, ap, subst, ◌∙◌, inl, inr, append_assoc, length-append, arith}
use Rattle.std.proofs.lemmas.List.{drop_at, length-take-le, take_at, take-append-drop}
use Rattle.std.proofs.lemmas.Str.{chars-append, encodes-chars, IsUtf8-append, IsUtf8-drop, IsCharBoundary-at_seam}
use Rattle.std.specs.List.{slice_range}
use Rattle.std.specs.Str.{IsCharBoundary}
use Rattle.np_code_points.specs.Lines.{HasNo}
use Rattle.np_forms.specs.Assigned.{IsAssigned}
use Rattle.np_forms.specs.Forms.{IsNormalForm}
use Rattle.np_forms.specs.Parts.{IsEachPartStable}
use Rattle.np_forms.proofs.CopyLemmas.{IsUtf8-front}
use Rattle.np_versions.specs.Versions.{VersionData}
use Rattle.np_lines.specs.Answers.{Wanted, IsAnswer, most_bytes, told_key}
use Rattle.np_lines.specs.Lines.{byte_of, ended}
use Rattle.np_lines.specs.Pushed.{ArePushed}
use Rattle.np_lines.proofs.PushedLemmas.{pushed-key, pushed-part}

module _ (v : VersionData) (wanted : Wanted) where
  -- the answer to a line that has a key
  key-answer : (line key : List ℕ) → IsUtf8 line → IsUtf8 key → IsAssigned v (chars line) → IsNormalForm v wanted.form (chars line) (chars key) → length line ≤ most_bytes → HasNo (byte_of wanted.end) key → IsAnswer v wanted line (told_key key)
  key-answer line key utf8 of_key assigned normal short free = inr (
    short,
    inr (inr (
      key,
      record { valid = utf8; assigned = assigned; list = chars key; is = normal; key_is = sym (encodes-chars key of_key) },
      inl (free, refl),
    )),
  )

  -- what is appended: the key, and what ends it
  ended-key : (old new text key behind : List ℕ) → text ≡ key ++ byte_of wanted.end ∷ behind → new ≡ old ++ 61 ∷ take (length key + 1) text → new ≡ old ++ (told_key key ++ byte_of wanted.end ∷ [])
  ended-key old new text key behind is out =
      let front : take (length key + 1) text ≡ key ++ byte_of wanted.end ∷ [] =
      ap (take (length key + 1)) (is ∙ sym (append_assoc key (byte_of wanted.end ∷ []) behind))
      ∙ take_at (key ++ byte_of wanted.end ∷ []) behind (length key + 1) (omega (arith, length-append key (byte_of wanted.end ∷ []))) in
      out ∙ ap (λ l. old ++ 61 ∷ l) front

  -- one more line, which has this key
  pub pushed-line : (text rest line behind key keys later old mid new : List ℕ) → IsUtf8 line → IsUtf8 key → IsAssigned v (chars line) → IsNormalForm v wanted.form (chars line) (chars key) → length line ≤ most_bytes
      → HasNo (byte_of wanted.end) line → HasNo (byte_of wanted.end) key → rest ≡ line ++ byte_of wanted.end ∷ behind → keys ≡ key ++ byte_of wanted.end ∷ later → new ≡ mid ++ 61 ∷ take (length key + 1) keys
      → ArePushed (IsAnswer v wanted) wanted.end text rest old mid → ArePushed (IsAnswer v wanted) wanted.end text behind old new
  pushed-line text rest line behind key keys later old mid new utf8 of_key assigned normal fits free of_free is of_keys out p =
      pushed-key (IsAnswer v wanted) wanted.end text rest line behind key old mid new p is free (key-answer line key utf8 of_key assigned normal fits of_free) (ended-key mid new keys key later of_keys out)

  -- a line is a part of the text
  line-part : (stable front rest line behind : List ℕ) → IsUtf8 stable → IsUtf8 rest → IsUtf8 line → stable ≡ front ++ rest → rest ≡ line ++ byte_of wanted.end ∷ behind
      → chars stable ≡ chars front ++ (chars line ++ chars (byte_of wanted.end ∷ behind))
  line-part stable front rest line behind utf8 of_rest of_line split is =
      ap chars split
      ∙ chars-append front rest (IsUtf8-front stable front rest split utf8 of_rest)
      ∙ ap (λ l. chars front ++ l) (ap chars is ∙ chars-append line (byte_of wanted.end ∷ behind) of_line)

  pub stable-line : (stable rest line behind old mid new : List ℕ) → IsUtf8 stable → IsUtf8 rest → IsUtf8 line → rest ≡ line ++ byte_of wanted.end ∷ behind → HasNo (byte_of wanted.end) line → length line ≤ most_bytes
      → new ≡ mid ++ 61 ∷ take (length line + 1) rest → IsEachPartStable v wanted.form (chars stable)
      → ArePushed (IsAnswer v wanted) wanted.end stable rest old mid → ArePushed (IsAnswer v wanted) wanted.end stable behind old new
  stable-line stable rest line behind old mid new utf8 of_rest of_line is free fits out each p =
      let front = ended wanted.end p.lines in
      let part = line-part stable front rest line behind utf8 of_rest of_line p.split is in
      let own = each (chars front) (chars line) (chars (byte_of wanted.end ∷ behind)) part in
      pushed-line stable rest line behind line rest behind old mid new of_line of_line own.0 own.1 fits free free is is out p

  -- the front that passes the quick check
  pub each_of : (text stable : List ℕ) (n : ℕ) → stable ≡ slice_range text 0 n → IsEachPartStable v wanted.form (chars (take n text)) → IsEachPartStable v wanted.form (chars stable)
  each_of text stable n of_stable each =
      let same : take n text ≡ stable = ap (λ k. take k text) (omega arith) ∙ sym of_stable in
      subst (λ l. IsEachPartStable v wanted.form (chars l)) same each

  -- what is left of the text
  module _ (text stable rest old new : List ℕ) (n : ℕ) (within : n ≤ length text) (of_stable : stable ≡ slice_range text 0 n) (p : ArePushed (IsAnswer v wanted) wanted.end stable rest old new) where
    abbrev front : List ℕ
    front = ended wanted.end p.lines

    same : stable ≡ take n text
    same = of_stable ∙ ap (λ k. take k text) (omega arith)

    left : text ≡ front ++ (rest ++ drop n text)
    left = sym (take-append-drop n text) ∙ ap (λ l. l ++ drop n text) (sym same ∙ p.split) ∙ append_assoc front rest (drop n text)

    sizes : n ≡ length front + length rest
    sizes = sym (length-take-le n text within) ∙ ap length (sym same ∙ p.split) ∙ length-append front rest

    pub left-place : length rest ≤ n
    left-place = omega (arith, sizes)

    place : length front ≡ n - length rest
    place = omega (arith, sizes)

    pub left-boundary : IsUtf8 text → IsCharBoundary text n → IsUtf8 rest → IsCharBoundary text (n - length rest)
    left-boundary utf8 at of_rest = subst (IsCharBoundary text) place (IsCharBoundary-at_seam text front (rest ++ drop n text) left (IsUtf8-append rest (drop n text) of_rest (IsUtf8-drop text n utf8 at)))

    pub left-pushed : (later : List ℕ) → later ≡ drop (n - length rest) text → ArePushed (IsAnswer v wanted) wanted.end text later old new
    left-pushed later is =
        let behind : later ≡ rest ++ drop n text = is ∙ ap (λ k. drop k text) (sym place) ∙ ap (drop (length front)) left ∙ drop_at front (rest ++ drop n text) (length front) refl in
        pushed-part (IsAnswer v wanted) wanted.end stable rest later old new p text (left ∙ ap (λ l. front ++ l) (sym behind))
