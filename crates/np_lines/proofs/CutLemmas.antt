-- Bytes are cut into lines in one way.
use Rattle.std.proofs.Common.{◌≡◌, ◌≢◌, ℕ, Bool, true, false, eqb, List, [], ◌∷◌, ◌++◌, Some, None, refl, sym, ap, ◌∙◌, append_assoc, append-nil}
use Rattle.std.proofs.lemmas.Bool.{eqb-true, eqb-false}
use Rattle.std.proofs.lemmas.List.{flat_map_more}
use Rattle.std.proofs.lemmas.List.Concat.{flat_map-append}
use Rattle.std.specs.List.{All}
use Rattle.std.proofs.lemmas.List.Elements.{All-nil, All-cons, All-head, All-tail, All-append, All-push}
use Rattle.np_code_points.specs.Lines.{HasNo}
use Rattle.np_code_points.specs.inside.LineCuts.{before_byte, after_byte}
use Rattle.np_code_points.proofs.LineGrammar.{not_byte, before_at, after_at, after_none}
use Rattle.np_lines.specs.Lines.{LineEnd, AreLines, IsCut, byte_of, ended, last_line}

-- one more line
pub ended-push : (end : LineEnd) (lines : List (List ℕ)) (line : List ℕ) → ended end (lines ++ line ∷ []) ≡ ended end lines ++ (line ++ byte_of end ∷ [])
ended-push end lines line = sym (flat_map_more (λ (l : List ℕ). l ++ byte_of end ∷ []) [] lines line)

pub ended-cons : (end : LineEnd) (line : List ℕ) (lines : List (List ℕ)) (rest : List ℕ) → ended end (line ∷ lines) ++ rest ≡ line ++ byte_of end ∷ (ended end lines ++ rest)
ended-cons end line lines rest =
    append_assoc (line ++ byte_of end ∷ []) (ended end lines) rest ∙ append_assoc line (byte_of end ∷ []) (ended end lines ++ rest)

-- no bytes
pub cut-nil : (end : LineEnd) → IsCut end [] [] []
cut-nil end = record { joined = refl; apart = All-nil (HasNo (byte_of end)); unended = All-nil (not_byte (byte_of end)) }

-- more bytes without an end
pub cut-more : (end : LineEnd) (bytes : List ℕ) (whole : List (List ℕ)) (rest more : List ℕ) → IsCut end bytes whole rest → HasNo (byte_of end) more → IsCut end (bytes ++ more) whole (rest ++ more)
cut-more end bytes whole rest more c h = record {
  joined = ap (λ l. l ++ more) c.joined ∙ append_assoc (ended end whole) rest more;
  apart = c.apart;
  unended = All-append (not_byte (byte_of end)) rest more c.unended h;
}

-- an end
pub cut-end : (end : LineEnd) (bytes : List ℕ) (whole : List (List ℕ)) (rest : List ℕ) → IsCut end bytes whole rest → IsCut end (bytes ++ byte_of end ∷ []) (whole ++ rest ∷ []) []
cut-end end bytes whole rest c = record {
  joined =
      ap (λ l. l ++ byte_of end ∷ []) c.joined
      ∙ append_assoc (ended end whole) rest (byte_of end ∷ [])
      ∙ sym (ended-push end whole rest)
      ∙ sym (append-nil (ended end (whole ++ rest ∷ [])));
  apart = All-push (HasNo (byte_of end)) whole rest c.apart c.unended;
  unended = All-nil (not_byte (byte_of end));
}

-- ---- each list of bytes is cut

pub record Cut (end : LineEnd) (bytes : List ℕ) : Type 0 where
  pub whole : List (List ℕ)
  pub rest : List ℕ
  pub cut : IsCut end bytes whole rest

-- an end in front
front_end : (end : LineEnd) (b : ℕ) (bytes : List ℕ) → b ≡ byte_of end → Cut end bytes → Cut end (b ∷ bytes)
front_end end b bytes is c = record {
  whole = [] ∷ c.whole;
  rest = c.rest;
  cut = record {
    joined = ap (λ x. x ∷ bytes) is ∙ ap (λ l. byte_of end ∷ l) c.cut.joined;
    apart = All-cons (HasNo (byte_of end)) [] c.whole (All-nil (not_byte (byte_of end))) c.cut.apart;
    unended = c.cut.unended;
  };
}

-- another byte in front
front_in : (end : LineEnd) (b : ℕ) (bytes : List ℕ) (whole : List (List ℕ)) (rest : List ℕ) → (b ≢ byte_of end) → IsCut end bytes whole rest → Cut end (b ∷ bytes)
front_in end b bytes [] rest not c = record {
  whole = [];
  rest = b ∷ rest;
  cut = record {
    joined = ap (λ l. b ∷ l) c.joined;
    apart = c.apart;
    unended = All-cons (not_byte (byte_of end)) b rest not c.unended;
  };
}
front_in end b bytes (line ∷ whole) rest not c = record {
  whole = (b ∷ line) ∷ whole;
  rest = rest;
  cut = record {
    joined = ap (λ l. b ∷ l) c.joined;
    apart =
        All-cons (HasNo (byte_of end)) (b ∷ line) whole
        (All-cons (not_byte (byte_of end)) b line not (All-head (HasNo (byte_of end)) line whole c.apart))
        (All-tail (HasNo (byte_of end)) line whole c.apart);
    unended = c.unended;
  };
}

front_cut : (end : LineEnd) (b : ℕ) (bytes : List ℕ) (t : Bool) → eqb b (byte_of end) ≡ t → Cut end bytes → Cut end (b ∷ bytes)
front_cut end b bytes true e c = front_end end b bytes (eqb-true b (byte_of end) e) c
front_cut end b bytes false e c = front_in end b bytes c.whole c.rest (eqb-false b (byte_of end) e) c.cut

pub cut_of : (end : LineEnd) (bytes : List ℕ) → Cut end bytes
cut_of end [] = record { whole = []; rest = []; cut = cut-nil end }
cut_of end (b ∷ bytes) = front_cut end b bytes (eqb b (byte_of end)) refl (cut_of end bytes)

-- what follows a cut
pub record CutBehind (end : LineEnd) (bytes : List ℕ) (whole : List (List ℕ)) : Type 0 where
  pub more : List (List ℕ)
  pub rest : List ℕ
  pub cut : IsCut end bytes (whole ++ more) rest

pub cut_joined : (end : LineEnd) (bytes behind : List ℕ) (whole more : List (List ℕ)) (rest left : List ℕ) → IsCut end bytes whole rest → IsCut end (rest ++ behind) more left → IsCut end (bytes ++ behind) (whole ++ more) left
cut_joined end bytes behind whole more rest left c d = record {
  joined =
      ap (λ l. l ++ behind) c.joined
      ∙ append_assoc (ended end whole) rest behind
      ∙ ap (λ l. ended end whole ++ l) d.joined
      ∙ sym (append_assoc (ended end whole) (ended end more) left)
      ∙ ap (λ l. l ++ left) (sym (flat_map-append (λ (line : List ℕ). line ++ byte_of end ∷ []) whole more));
  apart = All-append (HasNo (byte_of end)) whole more c.apart d.apart;
  unended = d.unended;
}

pub cut_behind : (end : LineEnd) (bytes behind : List ℕ) (whole : List (List ℕ)) (rest : List ℕ) → IsCut end bytes whole rest → CutBehind end (bytes ++ behind) whole
cut_behind end bytes behind whole rest c =
    let d = cut_of end (rest ++ behind) in
    record { more = d.whole; rest = d.rest; cut = cut_joined end bytes behind whole d.whole rest d.rest c d.cut }

-- ---- in one way

-- a line stands before an end, and none does in what has none
same_front : (end : LineEnd) (line other rest left : List ℕ) → HasNo (byte_of end) line → HasNo (byte_of end) other → line ++ byte_of end ∷ rest ≡ other ++ byte_of end ∷ left → (other ≡ line) × (left ≡ rest)
same_front end line other rest left h k e =
    let front : other ≡ line = sym (before_at (byte_of end) other left k) ∙ ap (before_byte (byte_of end)) (sym e) ∙ before_at (byte_of end) line rest h in
    let behind : Some left ≡ Some rest = sym (after_at (byte_of end) other left k) ∙ ap (after_byte (byte_of end)) (sym e) ∙ after_at (byte_of end) line rest h in
    let same : left ≡ rest = cc in
    (front, same)

no_front : (end : LineEnd) (line rest left : List ℕ) → HasNo (byte_of end) line → HasNo (byte_of end) left → left ≡ line ++ byte_of end ∷ rest → ⊥
no_front end line rest left h k e =
    let none : None ≡ Some rest = sym (after_none (byte_of end) left k) ∙ ap (after_byte (byte_of end)) e ∙ after_at (byte_of end) line rest h in
    absurd (cc)

same_lines : (end : LineEnd) (whole other : List (List ℕ)) (rest left : List ℕ) → All (HasNo (byte_of end)) whole → All (HasNo (byte_of end)) other → HasNo (byte_of end) rest → HasNo (byte_of end) left
    → ended end whole ++ rest ≡ ended end other ++ left → (other ≡ whole) × (left ≡ rest)
same_lines end [] [] rest left a b h k e = (refl, sym e)
same_lines end [] (y ∷ ys) rest left a b h k e =
    absurd (no_front end y (ended end ys ++ left) rest (All-head (HasNo (byte_of end)) y ys b) h (e ∙ ended-cons end y ys left))
same_lines end (x ∷ xs) [] rest left a b h k e =
    absurd (no_front end x (ended end xs ++ rest) left (All-head (HasNo (byte_of end)) x xs a) k (sym e ∙ ended-cons end x xs rest))
same_lines end (x ∷ xs) (y ∷ ys) rest left a b h k e =
    let parts =
    same_front end x y (ended end xs ++ rest) (ended end ys ++ left) (All-head (HasNo (byte_of end)) x xs a) (All-head (HasNo (byte_of end)) y ys b)
    (sym (ended-cons end x xs rest) ∙ e ∙ ended-cons end y ys left) in
    let more = same_lines end xs ys rest left (All-tail (HasNo (byte_of end)) x xs a) (All-tail (HasNo (byte_of end)) y ys b) h k (sym parts.1) in
    (ap (λ l. l ∷ ys) parts.0 ∙ ap (λ ls. x ∷ ls) more.0, more.1)

pub one_cut : (end : LineEnd) (bytes rest left : List ℕ) (whole other : List (List ℕ)) → IsCut end bytes whole rest → IsCut end bytes other left → (other ≡ whole) × (left ≡ rest)
one_cut end bytes rest left whole other c d = same_lines end whole other rest left c.apart d.apart c.unended d.unended (sym c.joined ∙ d.joined)

-- ---- the lines

pub are_lines : (end : LineEnd) (bytes : List ℕ) (c : Cut end bytes) → AreLines end bytes (c.whole ++ last_line c.rest)
are_lines end bytes c = record { whole = c.whole; rest = c.rest; cut = c.cut; lines_are = refl }

pub only_lines : (end : LineEnd) (bytes : List ℕ) (c : Cut end bytes) (lines : List (List ℕ)) → AreLines end bytes lines → lines ≡ c.whole ++ last_line c.rest
only_lines end bytes c lines a =
    let same = one_cut end bytes c.rest a.rest c.whole a.whole c.cut a.cut in
    a.lines_are ∙ ap (λ ls. ls ++ last_line a.rest) same.0 ∙ ap (λ l. c.whole ++ last_line l) same.1

pub last_line-filled : (rest : List ℕ) → (rest ≢ []) → last_line rest ≡ rest ∷ []
last_line-filled [] h = absurd (h refl)
last_line-filled (b ∷ bs) h = refl
