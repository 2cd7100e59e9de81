-- A line that comes piece by piece, and its answer.
use Rattle.std.proofs.Common.{◌≡◌, ℕ, Bool, false, List, [], ◌∷◌, ◌++◌, Bor, Option, None, Some, option_map, sym, ap, subst, ◌∙◌, inl, inr, append_assoc, append-nil}
use Rattle.std.proofs.lemmas.Bool.{both_ways}
use Rattle.np_code_points.specs.Lines.{HasNo}
use Rattle.np_code_points.specs.inside.LineCuts.{before_byte, after_byte}
use Rattle.np_code_points.proofs.LineGrammar.{before_free, joined_none, joined_some}
use Rattle.np_lines.specs.Lines.{LineEnd, byte_of}
use Rattle.np_lines.specs.declared.pending.Pending.{Pending}
use Rattle.np_lines.specs.inside.Steps.{Goes, HasBegun, HasTaken, IsAnswerTo, IsEnded, IsTold}
use Rattle.np_lines.proofs.StepLemmas.{goes-end, goes-joined, goes-on, nothing_begun}

-- ---- a cut at the byte that ends lines

pub cut_some : (end : LineEnd) (rest line : List ℕ) (byte : ℕ) (o : Option (Bor (List ℕ))) (behind : Bor (List ℕ)) → byte ≡ byte_of end → line ≡ before_byte byte rest
    → option_map (λ (r : Bor (List ℕ)). r.now) o ≡ after_byte byte rest → o ≡ Some behind → (rest ≡ line ++ byte_of end ∷ behind.now) × HasNo (byte_of end) line
cut_some end rest line byte o behind is before after some =
    let found : after_byte byte rest ≡ Some behind.now = sym after ∙ ap (option_map (λ (r : Bor (List ℕ)). r.now)) some in (
      joined_some byte rest behind.now found ∙ ap (λ l. l ++ byte ∷ behind.now) (sym before) ∙ ap (λ b. line ++ b ∷ behind.now) is,
      subst (λ b. HasNo b line) is (subst (HasNo byte) (sym before) (before_free byte rest)),
    )

pub cut_last : (end : LineEnd) (rest line : List ℕ) (byte : ℕ) (o : Option (Bor (List ℕ))) → byte ≡ byte_of end → line ≡ before_byte byte rest
    → option_map (λ (r : Bor (List ℕ)). r.now) o ≡ after_byte byte rest → o ≡ None → (rest ≡ line) × HasNo (byte_of end) line
cut_last end rest line byte o is before after none =
    let nothing : after_byte byte rest ≡ None = sym after ∙ ap (option_map (λ (r : Bor (List ℕ)). r.now)) none in
    (joined_none byte rest nothing ∙ sym before, subst (λ b. HasNo b line) is (subst (HasNo byte) (sym before) (before_free byte rest)))

-- ---- its answer

module _ (Is : List ℕ → List ℕ → Type 0) (end : LineEnd) where
  -- all of it is here
  pub told-whole : (p : Pending) (bytes old new : List ℕ) (refused : Bool) → p.line.items ≡ [] → p.is_long ≡ false → IsTold (Is bytes) old new refused → IsTold (IsAnswerTo Is p bytes) old new refused
  told-whole p bytes old new refused line short t = record {
    answer = t.answer;
    is = λ rest begun. subst (λ l. Is (l ++ bytes) t.answer) (sym (nothing_begun p rest line short begun)) t.is;
    out_is = t.out_is;
    told = t.told;
  }

  kept_line : (q : Pending) (line answer : List ℕ) → q.is_long ≡ false → HasBegun q line → Is q.line.items answer → Is line answer
  kept_line q line answer short (inl (_, is, fits)) a = subst (λ l. Is l answer) is a
  kept_line q line answer short (inr (is_long, none, many)) a = absurd (both_ways q.is_long short is_long)

  -- it was kept
  pub told-kept : (p q : Pending) (bytes old new : List ℕ) (refused : Bool) → ((rest : List ℕ) → HasBegun p rest → HasBegun q (rest ++ bytes)) → q.is_long ≡ false → IsTold (Is q.line.items) old new refused → IsTold (IsAnswerTo Is p bytes) old new refused
  told-kept p q bytes old new refused more short t = record {
    answer = t.answer;
    is = λ rest begun. kept_line q (rest ++ bytes) t.answer short (more rest begun) t.is;
    out_is = t.out_is;
    told = t.told;
  }

  -- ---- the lines of a piece

  pub taken-line : (p q r : Pending) (piece rest line behind : List ℕ) → HasTaken Is end p q piece rest → rest ≡ line ++ byte_of end ∷ behind → HasNo (byte_of end) line → IsEnded Is end q r line → HasTaken Is end p r piece behind
  taken-line p q r piece rest line behind t is free e = record {
    front = t.front ++ (line ++ byte_of end ∷ []);
    split =
        t.split
        ∙ ap (λ l. t.front ++ l) is
        ∙ ap (λ l. t.front ++ l) (sym (append_assoc line (byte_of end ∷ []) behind))
        ∙ sym (append_assoc t.front (line ++ byte_of end ∷ []) behind);
    goes = goes-joined Is end p q r t.front (line ++ byte_of end ∷ []) t.goes (goes-end Is end q r line free e);
  }

  pub taken-last : (p q r : Pending) (piece rest line : List ℕ) → HasTaken Is end p q piece rest → rest ≡ line → HasNo (byte_of end) line → r.out.items ≡ q.out.items → r.any_refused ≡ q.any_refused
      → ((rest : List ℕ) → HasBegun q rest → HasBegun r (rest ++ line)) → Goes Is end p r piece
  taken-last p q r piece rest line t is free out told begun =
      subst (Goes Is end p r) (sym (t.split ∙ ap (λ l. t.front ++ l) is)) (goes-joined Is end p q r t.front line t.goes (goes-on Is end q r line free out told begun))

  -- bytes without an end
  pub taken-all : (p q : Pending) (bytes line : List ℕ) → bytes ≡ line → HasNo (byte_of end) line → q.out.items ≡ p.out.items → q.any_refused ≡ p.any_refused
      → ((rest : List ℕ) → HasBegun p rest → HasBegun q (rest ++ line)) → HasTaken Is end p q bytes []
  taken-all p q bytes line is free out told begun = record { front = line; split = is ∙ sym (append-nil line); goes = goes-on Is end p q line free out told begun }

  -- more of a text was taken
  pub taken-more : (p q r : Pending) (text rest left : List ℕ) → HasTaken Is end p q text rest → HasTaken Is end q r rest left → HasTaken Is end p r text left
  taken-more p q r text rest left t u = record {
    front = t.front ++ u.front;
    split = t.split ∙ ap (λ l. t.front ++ l) u.split ∙ sym (append_assoc t.front u.front left);
    goes = goes-joined Is end p q r t.front u.front t.goes u.goes;
  }
