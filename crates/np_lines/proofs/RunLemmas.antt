-- A run over a whole input, piece by piece.
use Rattle.std.proofs.Common.{◌≡◌, ℕ, ◌+◌, ◌<◌, Bool, List, [], ◌++◌, length, take, drop, take_all, Option, Result, Ok, Err, IfOk, IfErr, arith, refl, sym, ap, subst, ◌∙◌, inl, inr, append_assoc, append-nil, length-append}
use Rattle.std.proofs.KnownBytes.{Appends-kept, Appends-nil, Appends-trans, Consumes-nil, Consumes-trans}
use Rattle.std.proofs.lemmas.List.{take-append-drop}
use Rattle.std.specs.Io.KnownBytes.{Appends, Consumes, IsAtEnd, Keeps}
use Rattle.np_forms.specs.RunEnds.{Ends}
use Rattle.np_lines.specs.Lines.{LineEnd}
use Rattle.np_lines.specs.Runs.{IsFirstLines, IsRunCut, IsRunWhole, IsWrittenOf, RunEndsBy}
use Rattle.np_lines.specs.Whole.{IsAllAnsweredBy}
use Rattle.np_lines.specs.declared.pending.Pending.{Pending}
use Rattle.np_lines.specs.declared.runs.LinesFault.{LinesFault}
use Rattle.np_lines.specs.declared.runs.LinesFault.TheVariants.{ReadFailed, WriteFailed, TooLarge, Memory}
use Rattle.np_lines.specs.inside.Steps.{Finishes, Goes, IsBetweenReads, IsNew, IsPieceAnswered, IsPieceCut, IsPieceFront, IsRestAnswered, IsRestCut, IsRestFront}
use Rattle.np_lines.proofs.CutLemmas.{cut_behind}
use Rattle.np_lines.proofs.StepLemmas.{answered-new, answered-same}

abbrev pub ends_of : Option (List ℕ) → Option (List ℕ) → Option (List ℕ) → Option (List ℕ) → Ends
ends_of i₀ i₁ o₀ o₁ = record { in_before = i₀; in_after = i₁; out_before = o₀; out_after = o₁ }

-- the first bytes of a front, and the rest
front_split : (done more : List ℕ) (count : ℕ) → done ++ more ≡ (done ++ take count more) ++ drop count more
front_split done more count = ap (λ l. done ++ l) (sym (take-append-drop count more)) ∙ sym (append_assoc done (take count more) (drop count more))

module _ (Is : List ℕ → List ℕ → Type 0) (end : LineEnd) where
  -- a piece was taken in, and its answers were written
  pub piece_answered : (p q r : Pending) (o₁ o₂ : Option (List ℕ)) (piece : List ℕ) → p.out.items ≡ [] → Goes Is end p q piece
      → r.line.items ≡ q.line.items → r.is_long ≡ q.is_long → r.any_refused ≡ q.any_refused → Appends o₁ o₂ q.out.items × (r.out.items ≡ []) → IsPieceAnswered Is end p r o₁ o₂ piece
  piece_answered p q r o₁ o₂ piece nothing g line long told (written, none) = record {
    more = g.more;
    written = subst (Appends o₁ o₂) (g.out_is ∙ ap (λ l. l ++ g.more) nothing) written;
    nothing = none;
    carries = λ came done a. answered-same Is end (came ++ piece) (done ++ g.more) q r line long told (g.carries came done a);
  }

  -- or some first bytes of them
  pub piece_cut : (p q : Pending) (o₁ o₂ : Option (List ℕ)) (piece : List ℕ) (fault : LinesFault) → p.out.items ≡ [] → Goes Is end p q piece
      → (n : ℕ) × Appends o₁ o₂ (take n q.out.items) × (fault ≡ WriteFailed) → IsPieceCut Is end p o₁ o₂ piece fault
  piece_cut p q o₁ o₂ piece fault nothing g (n, written, is) =
      subst (IsPieceCut Is end p o₁ o₂ piece) (sym is)
      (record { more = g.more; count = n; written = subst (λ l. Appends o₁ o₂ (take n l)) (g.out_is ∙ ap (λ l. l ++ g.more) nothing) written; new = q; carries = g.carries })

  pub rest_cut : (p q : Pending) (o₁ o₂ : Option (List ℕ)) (fault : LinesFault) → p.out.items ≡ [] → Finishes Is end p q
      → (n : ℕ) × Appends o₁ o₂ (take n q.out.items) × (fault ≡ WriteFailed) → IsRestCut Is end p o₁ o₂ fault
  rest_cut p q o₁ o₂ fault nothing f (n, written, is) =
      subst (IsRestCut Is end p o₁ o₂) (sym is)
      (record {
        more = f.more;
        count = n;
        written = subst (λ l. Appends o₁ o₂ (take n l)) (f.out_is ∙ ap (λ l. l ++ f.more) nothing) written;
        any_refused = q.any_refused;
        whole = f.whole;
      })

  -- all of them, but the flush failed
  pub rest_front : (p q : Pending) (o₁ o₂ o₃ : Option (List ℕ)) → p.out.items ≡ [] → Finishes Is end p q → Appends o₁ o₂ q.out.items → Keeps o₂ o₃ → IsRestFront Is end p o₁ o₃
  rest_front p q o₁ o₂ o₃ nothing f written kept =
      let all = f.out_is ∙ ap (λ l. l ++ f.more) nothing ∙ sym (take_all (length f.more) f.more (omega arith)) in
      record { more = f.more; count = length f.more; written = Appends-kept o₁ o₂ o₃ _ (subst (Appends o₁ o₂) all written) kept; any_refused = q.any_refused; whole = f.whole }

  -- before the first read
  pub between-new : (i o : Option (List ℕ)) (p : Pending) → IsNew p → IsBetweenReads Is end (ends_of i i o o) p
  between-new i o p h = record {
    came = [];
    taken = Consumes-nil i;
    done = [];
    written = Appends-nil o;
    answered = answered-new Is end p h;
    nothing = h.out;
  }

  pub came-new : (i o : Option (List ℕ)) (p : Pending) (h : IsNew p) → length (between-new i o p h).came ≡ 0
  unfolding between-new
  came-new i o p h = refl

  module _ {i₀ i₁ o₀ o₁ : Option (List ℕ)} {p : Pending} (b : IsBetweenReads Is end (ends_of i₀ i₁ o₀ o₁) p) where
    -- a piece
    pub between-piece : (i₂ o₂ : Option (List ℕ)) (q : Pending) (piece : List ℕ) → Consumes i₁ i₂ piece → IsPieceAnswered Is end p q o₁ o₂ piece → IsBetweenReads Is end (ends_of i₀ i₂ o₀ o₂) q
    between-piece i₂ o₂ q piece taken a = record {
      came = b.came ++ piece;
      taken = Consumes-trans i₀ i₁ i₂ b.came piece b.taken taken;
      done = b.done ++ a.more;
      written = Appends-trans o₀ o₁ o₂ b.done a.more b.written a.written;
      answered = a.carries b.came b.done b.answered;
      nothing = a.nothing;
    }

    pub came-piece : (i₂ o₂ : Option (List ℕ)) (q : Pending) (piece : List ℕ) (taken : Consumes i₁ i₂ piece) (a : IsPieceAnswered Is end p q o₁ o₂ piece) → length (between-piece i₂ o₂ q piece taken a).came ≡ length b.came + length piece
    unfolding between-piece
    came-piece i₂ o₂ q piece taken a = length-append b.came piece

    -- a piece was read, and nothing more was written
    first_lines : (i₂ o₂ : Option (List ℕ)) (piece : List ℕ) → IsFirstLines Is end (ends_of i₀ i₂ o₀ o₂) (b.came ++ piece) b.done
    first_lines i₂ o₂ piece =
        let a = b.answered in
        let behind = cut_behind end b.came piece a.lines a.rest a.cut in
        record { lines = a.lines; behind = behind.more; due = inl (behind.rest, behind.cut); answers = a.answers; answers_are = a.answers_are; out_is = a.done_is }

    cut_early : (i₂ o₂ : Option (List ℕ)) (piece : List ℕ) (fault : LinesFault) → Consumes i₁ i₂ piece → Appends o₁ o₂ [] →
        (IsFirstLines Is end (ends_of i₀ i₂ o₀ o₂) (b.came ++ piece) b.done → IsWrittenOf Is end (ends_of i₀ i₂ o₀ o₂) (b.came ++ piece) b.done fault) → IsRunCut Is end (ends_of i₀ i₂ o₀ o₂) fault
    cut_early i₂ o₂ piece fault taken written front =
        record {
          bytes = b.came ++ piece;
          taken = Consumes-trans i₀ i₁ i₂ b.came piece b.taken taken;
          out = b.done;
          written = subst (Appends o₀ o₂) (append-nil b.done) (Appends-trans o₀ o₁ o₂ b.done [] b.written written);
          front = front (first_lines i₂ o₂ piece);
        }

    -- no memory
    pub cut_memory : (i₂ o₂ : Option (List ℕ)) (piece : List ℕ) → Consumes i₁ i₂ piece → Appends o₁ o₂ [] → IsRunCut Is end (ends_of i₀ i₂ o₀ o₂) Memory
    cut_memory i₂ o₂ piece taken written = cut_early i₂ o₂ piece Memory taken written (λ h. h)

    -- more than is counted
    pub cut_large : (i₂ : Option (List ℕ)) (piece : List ℕ) → Consumes i₁ i₂ piece → 18446744073709551615 < length b.came + length piece → IsRunCut Is end (ends_of i₀ i₂ o₀ o₁) TooLarge
    cut_large i₂ piece taken large = cut_early i₂ o₁ piece TooLarge taken (Appends-nil o₁) (λ h. (omega (arith, large, length-append b.came piece), h))

    -- a piece that was not written whole
    cut_front : (i₂ o₂ : Option (List ℕ)) (piece : List ℕ) → Consumes i₁ i₂ piece → IsPieceFront Is end p o₁ o₂ piece → IsRunCut Is end (ends_of i₀ i₂ o₀ o₂) WriteFailed
    cut_front i₂ o₂ piece taken f =
        let a = f.carries b.came b.done b.answered in
        record {
          bytes = b.came ++ piece;
          taken = Consumes-trans i₀ i₁ i₂ b.came piece b.taken taken;
          out = b.done ++ take f.count f.more;
          written = Appends-trans o₀ o₁ o₂ b.done (take f.count f.more) b.written f.written;
          front = record {
            lines = a.lines;
            due = inl (a.rest, a.cut);
            answers = a.answers;
            answers_are = a.answers_are;
            more = drop f.count f.more;
            split = sym a.done_is ∙ front_split b.done f.more f.count;
          };
        }

    pub cut_piece : (i₂ o₂ : Option (List ℕ)) (piece : List ℕ) (fault : LinesFault) → Consumes i₁ i₂ piece → IsPieceCut Is end p o₁ o₂ piece fault → IsRunCut Is end (ends_of i₀ i₂ o₀ o₂) fault
    cut_piece i₂ o₂ piece ReadFailed taken c = absurd c
    cut_piece i₂ o₂ piece WriteFailed taken c = cut_front i₂ o₂ piece taken c
    cut_piece i₂ o₂ piece TooLarge taken c = absurd c
    cut_piece i₂ o₂ piece Memory taken c = cut_memory i₂ o₂ piece taken c

    -- the end of the input
    pub run_whole : (o₂ : Option (List ℕ)) (any_refused : Bool) → IsAtEnd i₁ → IsRestAnswered Is end p o₁ o₂ any_refused → IsRunWhole Is end (ends_of i₀ i₁ o₀ o₂) any_refused
    run_whole o₂ any_refused end r =
        let a = r.whole b.came b.done b.answered in
        record {
          bytes = b.came;
          taken = b.taken;
          end = end;
          lines = a.lines;
          lines_are = a.lines_are;
          answers = a.answers;
          answers_are = a.answers_are;
          written = subst (Appends o₀ o₂) a.made_is (Appends-trans o₀ o₁ o₂ b.done r.more b.written r.written);
          told = a.told;
        }

    cut_rest_front : (o₂ : Option (List ℕ)) → IsAtEnd i₁ → IsRestFront Is end p o₁ o₂ → IsRunCut Is end (ends_of i₀ i₁ o₀ o₂) WriteFailed
    cut_rest_front o₂ end f =
        let a = f.whole b.came b.done b.answered in
        record {
          bytes = b.came;
          taken = b.taken;
          out = b.done ++ take f.count f.more;
          written = Appends-trans o₀ o₁ o₂ b.done (take f.count f.more) b.written f.written;
          front = record {
            lines = a.lines;
            due = inr (end, a.lines_are);
            answers = a.answers;
            answers_are = a.answers_are;
            more = drop f.count f.more;
            split = sym a.made_is ∙ front_split b.done f.more f.count;
          };
        }

    pub cut_rest : (o₂ : Option (List ℕ)) (fault : LinesFault) → IsAtEnd i₁ → IsRestCut Is end p o₁ o₂ fault → IsRunCut Is end (ends_of i₀ i₁ o₀ o₂) fault
    cut_rest o₂ ReadFailed end c = absurd c
    cut_rest o₂ WriteFailed end c = cut_rest_front o₂ end c
    cut_rest o₂ TooLarge end c = absurd c
    cut_rest o₂ Memory end c = cut_memory i₁ o₂ [] (Consumes-nil i₁) c

-- ---- bytes that are all here

-- nothing came before them, and nothing comes behind
pub all_answered : (Is : List ℕ → List ℕ → Type 0) (end : LineEnd) (p q r : Pending) (bytes : List ℕ) → IsNew p → Goes Is end p q bytes → Finishes Is end q r → IsAllAnsweredBy Is end bytes r.out.items r.any_refused
all_answered Is end p q r bytes new g f =
    let out = f.out_is ∙ ap (λ l. l ++ f.more) (g.out_is ∙ ap (λ l. l ++ g.more) new.out) in
    subst (λ l. IsAllAnsweredBy Is end bytes l r.any_refused) (sym out) (f.whole bytes g.more (g.carries [] [] (answered-new Is end p new)))

-- ---- the whole of a run

-- devices that hold the same
pub ends_same : (Is : List ℕ → List ℕ → Type 0) (end : LineEnd) (i j k o p q : Option (List ℕ)) (result : Result Bool LinesFault) → j ≡ i → p ≡ o → RunEndsBy Is end (ends_of j k p q) result → RunEndsBy Is end (ends_of i k o q) result
ends_same Is end i j k o p q result read written h =
    subst (λ l. RunEndsBy Is end (ends_of l k o q) result) read (subst (λ l. RunEndsBy Is end (ends_of j k l q) result) written h)

pub ends_rest : (Is : List ℕ → List ℕ → Type 0) (end : LineEnd) (i₀ i₁ o₀ o₁ o₂ : Option (List ℕ)) (p : Pending) (result : Result Bool LinesFault) → IsBetweenReads Is end (ends_of i₀ i₁ o₀ o₁) p → IsAtEnd i₁
    → IfOk result (IsRestAnswered Is end p o₁ o₂) → IfErr result (IsRestCut Is end p o₁ o₂) → RunEndsBy Is end (ends_of i₀ i₁ o₀ o₂) result
ends_rest Is end i₀ i₁ o₀ o₁ o₂ p (Ok any_refused) b at_end ok err = run_whole Is end b o₂ any_refused at_end ok
ends_rest Is end i₀ i₁ o₀ o₁ o₂ p (Err fault) b at_end ok err = cut_rest Is end b o₂ fault at_end err
