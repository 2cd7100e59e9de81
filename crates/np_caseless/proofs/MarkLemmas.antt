-- Code points at the front of a text that are marked.
use Rattle.std.proofs.Common.{◌≡◌, ℕ, ◌+◌, ◌-◌, List, [], ◌∷◌, ◌++◌, chars, drop, encode_utf8, encode_utf8_all, IsUtf8, length, sym, ap, subst, ◌∙◌, arith}
use Rattle.std.specs.List.{All}
use Rattle.std.specs.Str.{IsCharBoundary}
use Rattle.std.proofs.lemmas.List.{append-nil, length-drop}
use Rattle.std.proofs.lemmas.List.Elements.{All-append, All-nil, All-push}
use Rattle.std.proofs.lemmas.Str.{chars-nil}
use Rattle.np_forms.specs.inside.Readings.{IsRead}
use Rattle.np_forms.proofs.CopyLemmas.{seam}
use Rattle.np_forms.proofs.TextLemmas.{IsRead-both, IsRead-next, IsRead-start}
use Rattle.np_caseless.specs.inside.ImageTables.{IsMarked, IsMarkedUpTo}
use Rattle.np_caseless.specs.inside.SimpleImages.{IsCodeAt}

pub none_marked : (own text : List ℕ) → IsUtf8 text → IsMarkedUpTo own text 0
none_marked own text utf8 = record {
  within = omega arith;
  read = [];
  reads = IsRead-start text utf8;
  marked = All-nil (IsMarked own);
}

-- one more is
pub marked_more : (own text : List ℕ) (at count code : ℕ) → IsMarkedUpTo own text at → IsCodeAt text at count code → IsMarked own code
    → IsMarkedUpTo own text (at + count)
marked_more own text at count code done here marked = record {
  within = here.long;
  read = done.read ++ code ∷ [];
  reads = IsRead-next text (drop at text) code (drop (at + count) text) done.read here.begins done.reads;
  marked = All-push (IsMarked own) done.read code done.marked marked;
}

-- these code points at the front of a text are marked
abbrev pub FrontIsMarked : List ℕ → List ℕ → List ℕ → Type 0
FrontIsMarked own text rest = (front : List ℕ) × IsRead text rest front × All (IsMarked own) front

-- a front that goes on by others that are marked
pub front_more : (own text middle left bytes : List ℕ) (n : ℕ) → FrontIsMarked own text middle → IsMarkedUpTo own bytes n → bytes ≡ middle
    → left ≡ drop n middle → FrontIsMarked own text left
front_more own text middle left bytes n before found same is =
    let reads = subst (λ (l : List ℕ). IsRead l (drop n l) found.read) same found.reads in (
      before.0 ++ found.read,
      subst (λ (l : List ℕ). IsRead text l (before.0 ++ found.read)) (sym is) (IsRead-both text middle (drop n middle) before.0 found.read before.1 reads),
      All-append (IsMarked own) before.0 found.read before.2 found.marked,
    )

pub front_code : (own text rest later : List ℕ) (code : ℕ) → FrontIsMarked own text rest → rest ≡ encode_utf8 code ++ later → IsMarked own code
    → FrontIsMarked own text later
front_code own text rest later code before begins marked = (
  before.0 ++ code ∷ [],
  IsRead-next text rest code later before.0 begins before.1,
  All-push (IsMarked own) before.0 code before.2 marked,
)

-- it ends between code points
pub marked_boundary : (own text bytes : List ℕ) (n : ℕ) → IsMarkedUpTo own bytes n → bytes ≡ text → IsCharBoundary text n
marked_boundary own text bytes n found same =
    let size : length bytes - length (drop n bytes) ≡ n = omega (arith, found.within, length-drop n bytes) in
    subst (λ l. IsCharBoundary l n) same
    (subst (IsCharBoundary bytes) size (seam bytes (encode_utf8_all found.read) (drop n bytes) found.reads.bytes found.reads.utf8))

-- where nothing is behind it, all of the text is marked
pub all_marked : (own text rest : List ℕ) → length rest ≡ 0 → FrontIsMarked own text rest → All (IsMarked own) (chars text)
all_marked own text [] none found =
    subst (All (IsMarked own)) (sym (found.1.split ∙ ap (λ l. found.0 ++ l) chars-nil ∙ append-nil found.0)) found.2
all_marked own text (b ∷ bs) none found = absurd (omega (arith, none))
