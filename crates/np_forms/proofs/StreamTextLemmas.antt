-- Streams that are fed a text at a time, copied, and taken apart.
use Rattle.std.proofs.Common.{◌≡◌, ℕ, List, [], ◌∷◌, ◌++◌, take, map, chars, refl, sym, ap, ap₂, subst, ◌∙◌}
use Rattle.np_forms.proofs.Words.{AreClassed, CodeAndClass, codes_of, with_class, with_classes, Breaks, HoldsFront, StreamState, VersionData, Writes, chars-nil, class_of, take-map}
use Rattle.np_forms.proofs.WrittenLemmas.{Writes-behind, Writes-start}
use Rattle.np_forms.specs.inside.Classes.{classes_in}

pub codes-take : (n : ℕ) (xs : List CodeAndClass) → codes_of (take n xs) ≡ take n (codes_of xs)
codes-take n xs = sym (take-map (λ (x : CodeAndClass). x.code) n xs)

module _ (v : VersionData) where
  pub AreClassed-take : (n : ℕ) (xs : List CodeAndClass) → AreClassed v xs → AreClassed v (take n xs)
  AreClassed-take n xs is = ap (take n) is ∙ take-map (with_class v) n (codes_of xs) ∙ ap (with_classes v) (sym (codes-take n xs))

  classes-with_classes : (cs : List ℕ) → classes_in (with_classes v cs) ≡ map (class_of v) cs
  classes-with_classes [] = refl
  classes-with_classes (c ∷ cs) = ap (λ l. class_of v c ∷ l) (classes-with_classes cs)

  pub classes-classed : (xs : List CodeAndClass) → AreClassed v xs → classes_in xs ≡ map (class_of v) (codes_of xs)
  classes-classed xs is = ap classes_in is ∙ classes-with_classes (codes_of xs)

  pub classed-from : (xs : List CodeAndClass) → classes_in xs ≡ map (class_of v) (codes_of xs) → AreClassed v xs
  classed-from [] is = refl
  classed-from (x ∷ xs) is =
      let here : x.class ≡ class_of v x.code = cc in
      let later : classes_in xs ≡ map (class_of v) (codes_of xs) = cc in
      ap₂ (λ (k : ℕ) (l : List CodeAndClass). record { code = x.code; class = k } ∷ l) here (classed-from xs later)

-- the front of a text that is all of it
pub Writes-front : (a b : StreamState) (bytes text rest : List ℕ) → a.ready ≡ [] → rest ≡ [] → HoldsFront a b text rest → Writes a b bytes bytes (chars text)
Writes-front a b bytes text rest empty nothing h =
    let moved : b.ready ≡ [] = h.ready ∙ empty in
    Writes-behind a b b bytes bytes text rest empty h (subst (Writes b b bytes bytes) (sym (ap chars nothing ∙ chars-nil)) (Writes-start b bytes moved))

-- what was written by itself stands behind other bytes
pub Writes-onto : (a b c : StreamState) (made out after text : List ℕ) → c ≡ a → after ≡ out ++ made → Writes c b [] made text → Writes a b out after text
Writes-onto a b c made out after text same grown w =
    subst (λ (s : StreamState). Writes s b out after text) same
    (record { more = w.more; written = grown ∙ ap (λ l. out ++ l) w.written; version = w.version; form = w.form; moved = w.moved; carries = w.carries })

pub Breaks-onto : (a b c : StreamState) (made out after : List ℕ) → c ≡ a → after ≡ out ++ made → Breaks c b [] made → Breaks a b out after
Breaks-onto a b c made out after same grown w =
    subst (λ (s : StreamState). Breaks s b out after) same
    (record {
      ends = record { more = w.ends.more; written = grown ∙ ap (λ l. out ++ l) w.ends.written; whole = w.ends.whole };
      version = w.version;
      form = w.form;
      moved = w.moved;
      begins = w.begins;
    })

-- a copy without what is ready, where nothing is
pub copy_same : (s : StreamState) → s.ready ≡ [] → record s { ready = [] } ≡ s
copy_same s empty = ap (λ r. record s { ready = r }) (sym empty)
