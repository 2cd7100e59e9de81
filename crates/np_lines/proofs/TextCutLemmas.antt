-- A text is cut beside a byte that ends lines.
use Rattle.std.proofs.Common.{◌≡◌, ℕ, ◌<◌, ◌+◌, ◌-◌, List, [], ◌∷◌, ◌++◌, length, get_or, take, drop, IsUtf8, refl, sym, ap, ◌∙◌, append_assoc, length-append, arith}
use Rattle.std.proofs.lemmas.List.{get_or_at, take_at, drop_at}
use Rattle.std.specs.List.{slice_range}
use Rattle.std.proofs.lemmas.Str.{IsCharBoundary-before_ascii, IsCharBoundary-after_ascii}
use Rattle.std.specs.Str.{IsCharBoundary}
use Rattle.np_lines.specs.Lines.{LineEnd, Lf, Nul, byte_of}

pub byte_ascii : (end : LineEnd) → byte_of end < 128
byte_ascii Lf = omega arith
byte_ascii Nul = omega arith

module _ (end : LineEnd) (text line behind : List ℕ) (is : text ≡ line ++ byte_of end ∷ behind) where
  at_end : get_or text (length line) 0 ≡ byte_of end
  at_end = ap (λ l. get_or l (length line) 0) is ∙ get_or_at line (byte_of end) behind 0 (length line) refl

  inside : length line < length text
  inside = omega (arith, ap length is, length-append line (byte_of end ∷ behind))

  pub boundary-before : IsCharBoundary text (length line)
  boundary-before = IsCharBoundary-before_ascii text (length line) inside (omega (arith, at_end, byte_ascii end))

  pub boundary-after : IsUtf8 text → IsCharBoundary text (length line + 1)
  boundary-after utf8 = IsCharBoundary-after_ascii text (length line) utf8 inside (omega (arith, at_end, byte_ascii end))

  pub front : slice_range text 0 (length line) ≡ line
  front = ap (take (length line - 0)) is ∙ take_at line (byte_of end ∷ behind) (length line - 0) (omega arith)

  pub back : drop (length line + 1) text ≡ behind
  back =
      ap (drop (length line + 1)) (is ∙ sym (append_assoc line (byte_of end ∷ []) behind))
      ∙ drop_at (line ++ byte_of end ∷ []) behind (length line + 1) (omega (arith, length-append line (byte_of end ∷ [])))
