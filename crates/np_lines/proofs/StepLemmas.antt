-- A run from line to line.
use Rattle.std.proofs.Common.{◌≡◌, ◌≢◌, ◌⊎◌, ℕ, ◌||◌, Bool, true, false, List, [], ◌∷◌, ◌++◌, length, refl, sym, ap, subst, ◌∙◌, inl, inr, append_assoc, append-nil, arith}
use Rattle.std.proofs.lemmas.Bool.{both_ways}
use Rattle.std.proofs.lemmas.List.Elements.{AllZip-push}
use Rattle.std.proofs.lemmas.List.Folds.{list_any-append}
use Rattle.std.specs.List.{list_any}
use Rattle.np_code_points.specs.Lines.{HasNo}
use Rattle.np_lines.specs.Answers.{is_refusal}
use Rattle.np_lines.specs.Lines.{IsCut, LineEnd, byte_of}
use Rattle.np_lines.specs.declared.pending.Pending.{Pending}
use Rattle.np_lines.specs.inside.Steps.{Finishes, Goes, HasBegun, IsAnswered, IsEnded, IsNew}
use Rattle.np_lines.proofs.CutLemmas.{cut-nil, cut-more, cut-end, ended-push, last_line-filled}

-- ---- the line that has begun

-- two that hold the same
pub same_begun : (p q : Pending) (rest : List ℕ) → q.line.items ≡ p.line.items → q.is_long ≡ p.is_long → HasBegun p rest → HasBegun q rest
same_begun p q rest line long (inl (short, is, fits)) = inl (long ∙ short, line ∙ is, fits)
same_begun p q rest line long (inr (is_long, none, many)) = inr (long ∙ is_long, line ∙ none, many)

-- nothing has begun
pub nothing_begun : (p : Pending) (rest : List ℕ) → p.line.items ≡ [] → p.is_long ≡ false → HasBegun p rest → rest ≡ []
nothing_begun p rest line short (inl (_, is, fits)) = sym is ∙ line
nothing_begun p rest line short (inr (is_long, none, many)) = absurd (both_ways p.is_long short is_long)

-- something has
pub some_begun : (p : Pending) (rest : List ℕ) → ((p.line.items ≢ []) ⊎ (p.is_long ≡ true)) → HasBegun p rest → rest ≢ []
some_begun p rest (inl filled) (inl (short, is, fits)) e = filled (is ∙ e)
some_begun p rest (inl filled) (inr (is_long, none, many)) e = filled none
some_begun p rest (inr long) (inl (short, is, fits)) e = both_ways p.is_long short long
some_begun p rest (inr long) (inr (is_long, none, many)) e = let nothing = ap length e in absurd (omega (arith, nothing))

-- ---- what came and was answered

pub answered-new : (Is : List ℕ → List ℕ → Type 0) (end : LineEnd) (p : Pending) → IsNew p → IsAnswered Is end [] [] p
answered-new Is end p h = record {
  lines = [];
  rest = [];
  cut = cut-nil end;
  begun = inl (h.short, h.line, omega arith);
  answers = [];
  answers_are = tt;
  done_is = refl;
  told = h.told;
}

pub answered-same : (Is : List ℕ → List ℕ → Type 0) (end : LineEnd) (came done : List ℕ) (p q : Pending) → q.line.items ≡ p.line.items → q.is_long ≡ p.is_long → q.any_refused ≡ p.any_refused → IsAnswered Is end came done p → IsAnswered Is end came done q
answered-same Is end came done p q line long told a = record {
  lines = a.lines;
  rest = a.rest;
  cut = a.cut;
  begun = same_begun p q a.rest line long a.begun;
  answers = a.answers;
  answers_are = a.answers_are;
  done_is = a.done_is;
  told = told ∙ a.told;
}

-- ---- steps

pub goes-none : (Is : List ℕ → List ℕ → Type 0) (end : LineEnd) (p : Pending) → Goes Is end p p []
goes-none Is end p = record {
  more = [];
  out_is = sym (append-nil p.out.items);
  carries = λ came done a. subst (λ l. IsAnswered Is end l (done ++ []) p) (sym (append-nil came)) (subst (λ l. IsAnswered Is end came l p) (sym (append-nil done)) a);
}

pub goes-joined : (Is : List ℕ → List ℕ → Type 0) (end : LineEnd) (p q r : Pending) (front back : List ℕ) → Goes Is end p q front → Goes Is end q r back → Goes Is end p r (front ++ back)
goes-joined Is end p q r front back g h = record {
  more = g.more ++ h.more;
  out_is = h.out_is ∙ ap (λ l. l ++ h.more) g.out_is ∙ append_assoc p.out.items g.more h.more;
  carries = λ came done a.
      subst (λ l. IsAnswered Is end l (done ++ (g.more ++ h.more)) r) (append_assoc came front back)
      (subst (λ l. IsAnswered Is end ((came ++ front) ++ back) l r) (append_assoc done g.more h.more)
      (h.carries (came ++ front) (done ++ g.more) (g.carries came done a)));
}

-- bytes without an end
pub goes-on : (Is : List ℕ → List ℕ → Type 0) (end : LineEnd) (p q : Pending) (bytes : List ℕ) → HasNo (byte_of end) bytes → q.out.items ≡ p.out.items → q.any_refused ≡ p.any_refused
    → ((rest : List ℕ) → HasBegun p rest → HasBegun q (rest ++ bytes)) → Goes Is end p q bytes
goes-on Is end p q bytes free out told begun = record {
  more = [];
  out_is = out ∙ sym (append-nil p.out.items);
  carries = λ came done a. record {
    lines = a.lines;
    rest = a.rest ++ bytes;
    cut = cut-more end came a.lines a.rest bytes a.cut free;
    begun = begun a.rest a.begun;
    answers = a.answers;
    answers_are = a.answers_are;
    done_is = append-nil done ∙ a.done_is;
    told = told ∙ a.told;
  };
}

pub or-false : (b : Bool) → (b || false) ≡ b
or-false true = refl
or-false false = refl

one_more_told : (old new : Bool) (answers : List (List ℕ)) (answer : List ℕ) → new ≡ (old || is_refusal answer) → old ≡ list_any is_refusal answers → new ≡ list_any is_refusal (answers ++ answer ∷ [])
one_more_told old new answers answer told before =
    told
    ∙ ap (λ b. b || is_refusal answer) before
    ∙ ap (λ b. list_any is_refusal answers || b) (sym (or-false (is_refusal answer)))
    ∙ sym (list_any-append is_refusal answers (answer ∷ []))

-- the rest of a line and its end
pub goes-end : (Is : List ℕ → List ℕ → Type 0) (end : LineEnd) (p q : Pending) (bytes : List ℕ) → HasNo (byte_of end) bytes → IsEnded Is end p q bytes → Goes Is end p q (bytes ++ byte_of end ∷ [])
goes-end Is end p q bytes free e = record {
  more = e.answer ++ byte_of end ∷ [];
  out_is = e.out_is;
  carries = λ came done a. record {
    lines = a.lines ++ (a.rest ++ bytes) ∷ [];
    rest = [];
    cut =
        subst (λ l. IsCut end l (a.lines ++ (a.rest ++ bytes) ∷ []) []) (append_assoc came bytes (byte_of end ∷ []))
        (cut-end end (came ++ bytes) a.lines (a.rest ++ bytes) (cut-more end came a.lines a.rest bytes a.cut free));
    begun = e.begins;
    answers = a.answers ++ e.answer ∷ [];
    answers_are = AllZip-push (Is) a.lines a.answers (a.rest ++ bytes) e.answer a.answers_are (e.is a.rest a.begun);
    done_is = ap (λ l. l ++ (e.answer ++ byte_of end ∷ [])) a.done_is ∙ sym (ended-push end a.answers e.answer);
    told = one_more_told p.any_refused q.any_refused a.answers e.answer e.told a.told;
  };
}

-- ---- the end

-- one has
pub finishes-some : (Is : List ℕ → List ℕ → Type 0) (end : LineEnd) (p q : Pending) → ((p.line.items ≢ []) ⊎ (p.is_long ≡ true)) → IsEnded Is end p q [] → Finishes Is end p q
finishes-some Is end p q some e = record {
  more = e.answer ++ byte_of end ∷ [];
  out_is = e.out_is;
  whole = λ came done a. record {
    lines = a.lines ++ a.rest ∷ [];
    lines_are = record {
      whole = a.lines;
      rest = a.rest;
      cut = a.cut;
      lines_are = ap (λ ls. a.lines ++ ls) (sym (last_line-filled a.rest (some_begun p a.rest some a.begun)));
    };
    answers = a.answers ++ e.answer ∷ [];
    answers_are = AllZip-push (Is) a.lines a.answers a.rest e.answer a.answers_are (subst (λ l. Is l e.answer) (append-nil a.rest) (e.is a.rest a.begun));
    made_is = ap (λ l. l ++ (e.answer ++ byte_of end ∷ [])) a.done_is ∙ sym (ended-push end a.answers e.answer);
    told = one_more_told p.any_refused q.any_refused a.answers e.answer e.told a.told;
  };
}
