-- Lines at the front of a text, answered at once.
use Rattle.std.proofs.Common.{◌≡◌, ℕ, ◌||◌, false, List, [], ◌∷◌, ◌++◌, refl, sym, ap, ◌∙◌, inl, append_assoc, append-nil, arith}
use Rattle.std.proofs.lemmas.List.Concat.{flat_map-append}
use Rattle.std.proofs.lemmas.List.Elements.{All-nil, All-push, AllZip-push}
use Rattle.std.proofs.lemmas.List.Folds.{list_any-append}
use Rattle.std.specs.List.{AllZip, list_any}
use Rattle.np_code_points.specs.Lines.{HasNo}
use Rattle.np_code_points.proofs.LineGrammar.{not_byte}
use Rattle.np_lines.specs.Answers.{is_refusal, told_key}
use Rattle.np_lines.specs.Lines.{IsCut, LineEnd, byte_of, ended}
use Rattle.np_lines.specs.Pushed.{ArePushed}
use Rattle.np_lines.specs.declared.pending.Pending.{Pending}
use Rattle.np_lines.specs.inside.Steps.{HasTaken}
use Rattle.np_lines.proofs.CutLemmas.{cut_joined, ended-push}
use Rattle.np_lines.proofs.StepLemmas.{nothing_begun, or-false}

both_zipped : {A B : Type 0} (R : A → B → Type 0) (xs : List A) (ys : List B) (us : List A) (ws : List B) → AllZip R xs ys → AllZip R us ws → AllZip R (xs ++ us) (ys ++ ws)
both_zipped R [] [] us ws h k = k
both_zipped R [] (y ∷ ys) us ws h k = absurd h
both_zipped R (x ∷ xs) [] us ws h k = absurd h
both_zipped R (x ∷ xs) (y ∷ ys) us ws h k = (h.0, both_zipped R xs ys us ws h.1 k)

module _ (Is : List ℕ → List ℕ → Type 0) (end : LineEnd) where
  pub pushed-none : (text old : List ℕ) → ArePushed Is end text text old old
  pushed-none text old = record {
    lines = [];
    split = refl;
    apart = All-nil (HasNo (byte_of end));
    answers = [];
    answers_are = tt;
    out_is = sym (append-nil old);
    none_refused = refl;
  }

  -- one more line, which has a key
  pub pushed-key : (text rest line behind key old mid new : List ℕ) → ArePushed Is end text rest old mid → rest ≡ line ++ byte_of end ∷ behind → HasNo (byte_of end) line → Is line (told_key key)
      → new ≡ mid ++ (told_key key ++ byte_of end ∷ []) → ArePushed Is end text behind old new
  pushed-key text rest line behind key old mid new p is free answer out = record {
    lines = p.lines ++ line ∷ [];
    split =
        p.split
        ∙ ap (λ l. ended end p.lines ++ l) (is ∙ sym (append_assoc line (byte_of end ∷ []) behind))
        ∙ sym (append_assoc (ended end p.lines) (line ++ byte_of end ∷ []) behind)
        ∙ ap (λ l. l ++ behind) (sym (ended-push end p.lines line));
    apart = All-push (HasNo (byte_of end)) p.lines line p.apart free;
    answers = p.answers ++ told_key key ∷ [];
    answers_are = AllZip-push Is p.lines p.answers line (told_key key) p.answers_are answer;
    out_is =
        out
        ∙ ap (λ l. l ++ (told_key key ++ byte_of end ∷ [])) p.out_is
        ∙ append_assoc old (ended end p.answers) (told_key key ++ byte_of end ∷ [])
        ∙ ap (λ l. old ++ l) (sym (ended-push end p.answers (told_key key)));
    none_refused = list_any-append is_refusal p.answers (told_key key ∷ []) ∙ ap (λ b. b || false) p.none_refused;
  }

  -- all lines behind a place, and what is left there
  pub pushed-part : (text rest later old new : List ℕ) (p : ArePushed Is end text rest old new) (whole : List ℕ) → whole ≡ ended end p.lines ++ later → ArePushed Is end whole later old new
  pushed-part text rest later old new p whole split = record {
    lines = p.lines;
    split = split;
    apart = p.apart;
    answers = p.answers;
    answers_are = p.answers_are;
    out_is = p.out_is;
    none_refused = p.none_refused;
  }

  -- they were taken, where no line had begun before them
  pub pushed-taken : (p q : Pending) (text rest : List ℕ) → p.line.items ≡ [] → p.is_long ≡ false → q.line.items ≡ p.line.items → q.is_long ≡ p.is_long → q.any_refused ≡ p.any_refused
      → ArePushed Is end text rest p.out.items q.out.items → HasTaken Is end p q text rest
  pushed-taken p q text rest none short line long told h = record {
    front = ended end h.lines;
    split = h.split;
    goes = record {
      more = ended end h.answers;
      out_is = h.out_is;
      carries = λ came done a.
          let nothing : a.rest ≡ [] = nothing_begun p a.rest none short a.begun in
          let behind : IsCut end (a.rest ++ ended end h.lines) h.lines [] = record {
            joined = ap (λ l. l ++ ended end h.lines) nothing ∙ sym (append-nil (ended end h.lines));
            apart = h.apart;
            unended = All-nil (not_byte (byte_of end));
          } in record {
            lines = a.lines ++ h.lines;
            rest = [];
            cut = cut_joined end came (ended end h.lines) a.lines h.lines a.rest [] a.cut behind;
            begun = inl (long ∙ short, line ∙ none, omega arith);
            answers = a.answers ++ h.answers;
            answers_are = both_zipped Is a.lines a.answers h.lines h.answers a.answers_are h.answers_are;
            done_is = ap (λ l. l ++ ended end h.answers) a.done_is ∙ sym (flat_map-append (λ (answer : List ℕ). answer ++ byte_of end ∷ []) a.answers h.answers);
            told =
                told
                ∙ a.told
                ∙ sym (list_any-append is_refusal a.answers h.answers ∙ ap (λ b. list_any is_refusal a.answers || b) h.none_refused ∙ or-false (list_any is_refusal a.answers));
          };
    };
  }
