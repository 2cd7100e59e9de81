-- The answer to a line whose key stands at the line's own place.
use Rattle.std.proofs.Common.{◌≡◌, ℕ, ◌-◌, ◌<◌, ◌≤◌, List, [], ◌∷◌, ◌++◌, chars, drop, length, length-append, take, IsUtf8}
use Rattle.std.proofs.Common.{refl, sym, ap, ap₂, subst, ◌∙◌, inl, inr, arith}
use Rattle.std.proofs.lemmas.Str.{encodes-chars}
use Rattle.np_caseless.specs.Caseless.{IsCaseless}
use Rattle.np_caseless.specs.Folded.{FoldedVersion}
use Rattle.np_caseless.specs.SimpleKeys.{IsEachPartKey, IsSimpleKey}
use Rattle.np_code_points.specs.Lines.{HasNo}
use Rattle.np_code_points.specs.declared.forms.Form.{Form}
use Rattle.np_forms.proofs.CopyLemmas.{IsUtf8-front}
use Rattle.np_lines.specs.Answers.{IsAnswerBy, told_key}
use Rattle.np_lines.specs.Lines.{byte_of, ended}
use Rattle.np_lines.specs.declared.lines.LineEnd.{LineEnd}
use Rattle.np_lines.specs.declared.lines.LineEnd.TheVariants.{Lf, Nul}
use Rattle.np_lines.proofs.PushedLemmas.{pushed-key}
use Rattle.np_caseless_lines.specs.inside.Answered.{AreAnswered}

is_control : (end : LineEnd) → byte_of end < 32
is_control Lf = omega arith
is_control Nul = omega arith

module _ (v : FoldedVersion) (form : Form) (end : LineEnd) where
  simple_answer : (line key : List ℕ) → IsUtf8 line → length line ≤ 65536 → HasNo (byte_of end) line → IsSimpleKey v form line key
      → IsAnswerBy (IsCaseless v form) v.version end line (told_key key)
  simple_answer line key utf8 short free is = inr (
    short,
    inr (inr (
      key,
      record { valid = utf8; assigned = is.assigned; list = chars key; is = is.caseless; key_is = sym (encodes-chars key is.utf8) },
      inl (is.ends (byte_of end) (is_control end) free, refl),
    )),
  )

  -- one more line of a front was answered
  pub line_answered : (front rest line behind keys old mid new : List ℕ) (place n : ℕ) → IsUtf8 front → IsUtf8 rest → IsUtf8 line
      → rest ≡ line ++ byte_of end ∷ behind → HasNo (byte_of end) line → length front ≤ 1000
      → place ≡ length front - length rest → n ≡ length line → new ≡ mid ++ (told_key (take n (drop place keys)) ++ byte_of end ∷ [])
      → IsEachPartKey v form front keys → AreAnswered v form end front rest old mid → AreAnswered v form end front behind old new
  line_answered front rest line behind keys old mid new place n utf8 of_rest of_line is free short at long out each p =
      let before = ended end p.lines in
      let key = take n (drop place keys) in
      let sizes = length-append before rest in
      let part : front ≡ before ++ (line ++ byte_of end ∷ behind) = p.split ∙ ap (λ l. before ++ l) is in
      let here = each before line (byte_of end ∷ behind) part (IsUtf8-front front before rest p.split utf8 of_rest) of_line in
      let same : length before ≡ place = omega (arith, at, ap length p.split, sizes) in
      let told : IsSimpleKey v form line key = subst (IsSimpleKey v form line) (ap₂ (λ m k. take m (drop k keys)) (sym long) same) here in
      let fits : length line ≤ 65536 = omega (arith, short, ap length p.split, sizes, ap length is, length-append line (byte_of end ∷ behind)) in
      let answer = simple_answer line key of_line fits free told in
      pushed-key (IsAnswerBy (IsCaseless v form) v.version end) end front rest line behind key old mid new p is free answer out
