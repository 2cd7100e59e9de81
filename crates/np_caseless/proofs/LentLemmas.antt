-- Lists that begin with what code points lead to.
use Rattle.std.proofs.Common.{◌≡◌, ℕ, ◌+◌, ◌<◌, Bool, true, false, eqb, List, [], ◌∷◌, ◌++◌, length, get_or, take, flat_map, Option, Some, None, IfSome, refl, sym, ap, ◌∙◌}
use Rattle.std.specs.List.{list_all}
use Rattle.std.proofs.lemmas.Bool.{and_from, eqb-true}
use Rattle.std.proofs.lemmas.List.{append-nil, append_assoc, flat_map_more, nil_from_length, take_more}
use Rattle.np_versions.specs.inside.FullDecompositions.{full_of}
use Rattle.np_versions.specs.Conditions.{IsSound}
use Rattle.np_versions.specs.Mappings.{is_final}
use Rattle.np_versions.specs.Versions.{class_of}
use Rattle.np_versions.proofs.MappingLemmas.{final-decomposed}
use Rattle.np_caseless.specs.Folded.{FoldedVersion, folding_at, is_quiet}
use Rattle.np_caseless.proofs.ImageLemmas.{alone_all, starter_stays}
use Rattle.np_caseless.specs.inside.Images.{AreImages, AreLast, LeadsOnce, folded_parts, last_parts, once_folded, stays}

-- one more code point
pub one_behind : (list front rest others : List ℕ) (i x one : ℕ) → i < length front → x ≡ get_or front i x → list ≡ take i front ++ rest
    → rest ≡ one ∷ others → one ≡ x
    → list ≡ take (i + 1) front ++ others
one_behind list front rest others i x one lt here before split same =
    let more : take (i + 1) front ≡ take i front ++ x ∷ [] = take_more front i x lt ∙ ap (λ (k : ℕ). take i front ++ k ∷ []) (sym here) in
    before
    ∙ ap (λ l. take i front ++ l) (split ∙ ap (λ (k : ℕ). k ∷ others) same)
    ∙ sym (append_assoc (take i front) (x ∷ []) others)
    ∙ ap (λ l. l ++ others) (sym more)

-- what one more code point leads to
pub more_behind : (f : ℕ → List ℕ) (list codes rest others added : List ℕ) (i x : ℕ) → i < length codes → x ≡ get_or codes i x
    → list ≡ flat_map f (take i codes) ++ rest
    → added ≡ f x → rest ≡ added ++ others → list ≡ flat_map f (take (i + 1) codes) ++ others
more_behind f list codes rest others added i x lt here before is split =
    let more : take (i + 1) codes ≡ take i codes ++ x ∷ [] = take_more codes i x lt ∙ ap (λ (k : ℕ). take i codes ++ k ∷ []) (sym here) in
    before
    ∙ ap (λ l. flat_map f (take i codes) ++ l) (split ∙ ap (λ l. l ++ others) is)
    ∙ sym (append_assoc (flat_map f (take i codes)) (f x) others)
    ∙ ap (λ l. l ++ others) (flat_map_more f [] (take i codes) x ∙ ap (flat_map f) (sym more))

-- nothing is left
pub none_behind : (list front rest : List ℕ) (none : Bool) → list ≡ front ++ rest → none ≡ eqb (length rest) 0 → none ≡ true → list ≡ front
none_behind list front rest none is test h =
    is ∙ ap (λ l. front ++ l) (nil_from_length rest (eqb-true (length rest) 0 (sym test ∙ h))) ∙ append-nil front

-- a list of one
pub alone_parts : (f : ℕ → List ℕ) (list rest : List ℕ) (one : ℕ) (none : Bool) → list ≡ one ∷ rest → none ≡ eqb (length rest) 0 → none ≡ true
    → f one ≡ flat_map f list
alone_parts f list rest one none split test h =
    let nil = nil_from_length rest (eqb-true (length rest) 0 (sym test ∙ h)) in
    sym (ap (flat_map f) (split ∙ ap (λ l. one ∷ l) nil) ∙ append-nil (f one))

-- what holds of a value holds of it as another thing
pub some_more : {A : Type 0} (P Q : A → Type 0) (o : Option A) → ((x : A) → P x → Q x) → IfSome o P → IfSome o Q
some_more P Q (Some x) to h = to x h
some_more P Q None to h = h

module _ (v : FoldedVersion) where
  pub leads : (compat : Bool) (c : ℕ) (first list : List ℕ) → first ≡ full_of v.version false c → list_all (stays v compat) first ≡ true
      → list ≡ flat_map (folded_parts v compat) first → LeadsOnce v compat c list
  unfolding once_folded
  leads compat c first list is stay leads_to =
      record { first = ap (list_all (stays v compat)) (sym is) ∙ stay; once = leads_to ∙ ap (flat_map (folded_parts v compat)) is }

  pub last_once : (compat : Bool) (c : ℕ) (once last : List ℕ) → compat ≡ false → LeadsOnce v compat c once → last ≡ once → AreLast v compat c last
  unfolding last_parts
  last_once true c once last e leads_to same = cc
  last_once false c once last e leads_to same = record { first = leads_to.first; second = λ none. cc; last = same ∙ leads_to.once }

  pub last_twice : (compat : Bool) (c : ℕ) (once last : List ℕ) → compat ≡ true → LeadsOnce v compat c once → list_all (stays v true) once ≡ true
      → last ≡ flat_map (folded_parts v true) once → AreLast v compat c last
  unfolding last_parts
  last_twice false c once last e leads_to stay again = cc
  last_twice true c once last e leads_to stay again =
      record {
        first = leads_to.first;
        second = λ yes. ap (list_all (stays v true)) (sym leads_to.once) ∙ stay;
        last = again ∙ ap (flat_map (folded_parts v true)) leads_to.once;
      }

  pub images_of_last : (compat : Bool) (c : ℕ) (last ys : List ℕ) → AreLast v compat c last → last ≡ flat_map (full_of v.version compat) ys
      → AreImages v compat (c ∷ []) ys
  images_of_last compat c last ys h is =
      record {
        first = ap (list_all (stays v compat)) (append-nil (full_of v.version false c)) ∙ h.first;
        second = λ e. ap (list_all (stays v true)) (append-nil (once_folded v true c)) ∙ h.second e;
        parts = sym is ∙ h.last ∙ sym (append-nil (last_parts v compat c));
      }

-- A starter that has no canonical mapping.
module _ (v : FoldedVersion) (sound : IsSound v.version) where
  letter_leads : (compat : Bool) (c : ℕ) (parts : List ℕ) → full_of v.version false c ≡ c ∷ [] → class_of v.version c ≡ 0
      → parts ≡ folded_parts v compat c → LeadsOnce v compat c parts
  letter_leads compat c parts alone starter is =
      leads v compat c (c ∷ []) parts (sym alone) (and_from _ _ (starter_stays v compat c (class_of v.version c) refl starter) refl)
      (is ∙ sym (append-nil (folded_parts v compat c)))

  pub letter_once : (compat : Bool) (c : ℕ) (parts : List ℕ) → compat ≡ false → full_of v.version false c ≡ c ∷ [] → class_of v.version c ≡ 0
      → parts ≡ folded_parts v compat c
      → AreLast v compat c parts
  letter_once compat c parts e alone starter is = last_once v compat c parts parts e (letter_leads compat c parts alone starter is) refl

  pub letter_twice : (compat : Bool) (c : ℕ) (parts : List ℕ) → compat ≡ true → full_of v.version false c ≡ c ∷ [] → class_of v.version c ≡ 0
      → list_all (is_quiet v.foldings) parts ≡ true
      → parts ≡ folded_parts v compat c → AreLast v compat c parts
  unfolding folded_parts
  letter_twice false c parts e alone starter quiets is = cc
  letter_twice true c parts e alone starter quiets is =
      let finals = ap (list_all (is_final v.version true)) is ∙ final-decomposed v.version true sound.shallow (folding_at v.foldings c) in
      let rest = alone_all v sound true parts quiets finals in
      last_twice v true c parts parts refl (letter_leads true c parts alone starter is) rest.0 rest.1
