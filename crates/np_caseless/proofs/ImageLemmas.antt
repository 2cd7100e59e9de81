-- What may stand in place of code points before the last normalization leads to their caseless form.
use Rattle.std.proofs.Common.{◌≡◌, ℕ, ◌+◌, ◌<◌, ◌&&◌, ◌||◌, Bool, true, false, eqb, List, [], ◌∷◌, ◌++◌, length, get_or, take, flat_map, chars, encode_utf8, encode_utf8_all, Result, Ok, Err, IfOk, refl, sym, ap, ap₂, ◌∙◌, inl, inr, arith}
use Rattle.std.specs.List.{All, list_all}
use Rattle.std.specs.Str.{bytes_eq}
use Rattle.std.proofs.lemmas.Bool.{and_from, and_parts, both_ways, cases_Bool, eq-eqb, eqb-true, or_right}
use Rattle.std.proofs.lemmas.Grind.{flat_map-append}
use Rattle.std.proofs.lemmas.List.{append-nil, flat_map_more, take_more}
use Rattle.std.proofs.lemmas.List.Elements.{All-head, All-tail}
use Rattle.std.proofs.lemmas.List.Folds.{list_all-append}
use Rattle.std.proofs.lemmas.Slice.Eq.{bytes_eq-Decides}
use Rattle.np_code_points.specs.Forms.{is_compat}
use Rattle.np_code_points.specs.declared.forms.Form.{Form}
use Rattle.np_code_points.specs.declared.forms.Form.TheVariants.{Nfd, Nfc, Nfkd, Nfkc}
use Rattle.np_forms.specs.Forms.{IsNormalForm}
use Rattle.np_forms.specs.Order.{is_reorderable}
use Rattle.np_forms.specs.inside.CanonicalOrder.{canonical_order}
use Rattle.np_forms.specs.inside.NormalForms.{decomposed, ended, normal_form}
use Rattle.np_forms.proofs.FormLemmas.{normal_form_is}
use Rattle.np_forms.proofs.OrderLemmas.{canonical_order-exchange, canonical_order-keeps, is_reorderable-true, list_all-canonical_order}
use Rattle.np_versions.specs.Conditions.{IsSound}
use Rattle.np_code_points.specs.Hangul.{is_syllable}
use Rattle.np_versions.specs.Mappings.{IsLent, is_final}
use Rattle.np_versions.specs.Versions.{VersionData, class_of, has_hangul}
use Rattle.np_versions.specs.inside.FullDecompositions.{full_of}
use Rattle.np_versions.proofs.MappingLemmas.{final-decomposed, full_of-final, full_of-only, full_of-some}
use Rattle.np_caseless.specs.Caseless.{IsCaseless}
use Rattle.np_caseless.specs.Folded.{FoldedVersion, folding_at, fold_all, is_quiet}
use Rattle.np_caseless.specs.inside.Images.{AreImages, folded_parts, last_parts, once_folded, stays}
use Rattle.np_caseless.specs.inside.ImageTables.{IsMarked}
use Rattle.np_caseless.specs.inside.Keys.{caseless}
use Rattle.np_caseless.proofs.KeyLemmas.{IsCaseless-value}
use Rattle.np_caseless.proofs.QuietLemmas.{quiet_folds}

pub flat_map-flat_map : (f g : ℕ → List ℕ) (xs : List ℕ) → flat_map f (flat_map g xs) ≡ flat_map (λ x. flat_map f (g x)) xs
flat_map-flat_map f g [] = refl
flat_map-flat_map f g (x ∷ xs) = flat_map-append f (g x) (flat_map g xs) ∙ ap (λ l. flat_map f (g x) ++ l) (flat_map-flat_map f g xs)

-- what holds of each in two lists holds of each in what they are mapped to
all_more : (p : ℕ → Bool) (f : ℕ → List ℕ) (xs ws : List ℕ) → list_all p (flat_map f xs) ≡ true → list_all p (flat_map f ws) ≡ true
    → list_all p (flat_map f (xs ++ ws)) ≡ true
all_more p f xs ws first second =
    ap (list_all p) (flat_map-append f xs ws) ∙ list_all-append p (flat_map f xs) (flat_map f ws) ∙ and_from _ _ first second

-- two tests may change places before others
and_swap : (a b c : Bool) → (a && (b && c)) ≡ (b && (a && c))
and_swap true b c = refl
and_swap false true c = refl
and_swap false false c = refl

-- Where the non-starters of a list are mapped to themselves, it may be put in order before each is mapped or only behind that.
module _ (ccc : ℕ → ℕ) (to : ℕ → List ℕ) (ok : ℕ → Bool) (fixed : (c : ℕ) → ok c ≡ true → 0 < ccc c → to c ≡ c ∷ []) where
  made : Bool → List ℕ → List ℕ
  made true xs = canonical_order ccc (flat_map to xs)
  made false xs = []

  mapped_pair : (us : List ℕ) (a b : ℕ) (vs : List ℕ) → to a ≡ a ∷ [] → to b ≡ b ∷ []
      → flat_map to (us ++ a ∷ b ∷ vs) ≡ flat_map to us ++ a ∷ b ∷ flat_map to vs
  mapped_pair us a b vs first second =
      flat_map-append to us (a ∷ b ∷ vs) ∙ ap₂ (λ x y. flat_map to us ++ (x ++ (y ++ flat_map to vs))) first second

  exchanged : (us : List ℕ) (a b : ℕ) (vs : List ℕ) (t : Bool) → is_reorderable ccc a b ≡ true → list_all ok (us ++ a ∷ b ∷ vs) ≡ t
      → made t (us ++ a ∷ b ∷ vs) ≡ made t (us ++ b ∷ a ∷ vs)
  unfolding made
  exchanged us a b vs false pair e = refl
  exchanged us a b vs true pair e =
      let both = and_parts (list_all ok us) (list_all ok (a ∷ b ∷ vs)) (sym (list_all-append ok us (a ∷ b ∷ vs)) ∙ e) in
      let one = and_parts (ok a) (ok b && list_all ok vs) both.1 in
      let two = and_parts (ok b) (list_all ok vs) one.1 in
      let falls = is_reorderable-true ccc a b pair in
      let first = fixed a one.0 (omega (arith, falls.0, falls.1)) in
      let second = fixed b two.0 falls.0 in
      ap (canonical_order ccc) (mapped_pair us a b vs first second)
      ∙ canonical_order-exchange ccc (flat_map to us) a b (flat_map to vs) pair
      ∙ ap (canonical_order ccc) (sym (mapped_pair us b a vs second first))

  swapped : (us : List ℕ) (a b : ℕ) (vs : List ℕ) → list_all ok (us ++ a ∷ b ∷ vs) ≡ list_all ok (us ++ b ∷ a ∷ vs)
  swapped us a b vs =
      list_all-append ok us (a ∷ b ∷ vs) ∙ ap (λ t. list_all ok us && t) (and_swap (ok a) (ok b) (list_all ok vs)) ∙ sym (list_all-append ok us (b ∷ a ∷ vs))

  kept : (us : List ℕ) (a b : ℕ) (vs : List ℕ) → is_reorderable ccc a b ≡ true
      → made (list_all ok (us ++ a ∷ b ∷ vs)) (us ++ a ∷ b ∷ vs) ≡ made (list_all ok (us ++ b ∷ a ∷ vs)) (us ++ b ∷ a ∷ vs)
  kept us a b vs pair =
      exchanged us a b vs (list_all ok (us ++ a ∷ b ∷ vs)) pair refl ∙ ap (λ t. made t (us ++ b ∷ a ∷ vs)) (swapped us a b vs)

  pub ordered_before : (xs : List ℕ) → list_all ok xs ≡ true → canonical_order ccc (flat_map to (canonical_order ccc xs)) ≡ canonical_order ccc (flat_map to xs)
  unfolding made
  ordered_before xs all =
      ap (λ t. made t (canonical_order ccc xs)) (sym (list_all-canonical_order ccc ok xs all))
      ∙ canonical_order-keeps ccc (λ l. made (list_all ok l) l) kept xs
      ∙ ap (λ t. made t xs) all

module _ (v : FoldedVersion) where
  abbrev D : ℕ → List ℕ
  D = full_of v.version false

  abbrev K : ℕ → List ℕ
  K = full_of v.version true

  abbrev order : List ℕ → List ℕ
  order = canonical_order (class_of v.version)

  -- a non-starter that stays
  fixed_of : (compat : Bool) (c : ℕ) → stays v compat c ≡ true → 0 < class_of v.version c → folded_parts v compat c ≡ c ∷ []
  unfolding stays
  fixed_of compat c h non_starter =
      elim (cases_Bool (eqb (class_of v.version c) 0)) [
        | inl starter ↦ absurd (omega (arith, eqb-true (class_of v.version c) 0 starter, non_starter))
        | inr other ↦
            (bytes_eq-Decides (folded_parts v compat c) (c ∷ [])).0
            (ap (λ t. t || bytes_eq (folded_parts v compat c) (c ∷ [])) (sym other) ∙ h)
      ]

  -- a starter stays, and so does what is folded and decomposed to itself alone
  pub starter_stays : (compat : Bool) (c n : ℕ) → n ≡ class_of v.version c → n ≡ 0 → stays v compat c ≡ true
  unfolding stays
  starter_stays compat c n is zero =
      ap (λ t. t || bytes_eq (folded_parts v compat c) (c ∷ [])) (eq-eqb (class_of v.version c) 0 (sym is ∙ zero))

  pub alone_stays : (compat : Bool) (c : ℕ) → folded_parts v compat c ≡ c ∷ [] → stays v compat c ≡ true
  unfolding stays
  alone_stays compat c alone = or_right (eqb (class_of v.version c) 0) _ ((bytes_eq-Decides (folded_parts v compat c) (c ∷ [])).1 alone)

  pub alone_told : (compat : Bool) (c : ℕ) (parts one : List ℕ) → parts ≡ flat_map (folded_parts v compat) (c ∷ []) → one ≡ c ∷ []
      → bytes_eq parts one ≡ true → stays v compat c ≡ true
  alone_told compat c parts one is alone same =
      alone_stays compat c (sym (append-nil (folded_parts v compat c)) ∙ sym is ∙ (bytes_eq-Decides parts one).0 same ∙ alone)

  -- the parts of a folding
  pub parts_of_folding : (compat : Bool) (c : ℕ) (folding : List ℕ) → folding ≡ folding_at v.foldings c
      → folded_parts v compat c ≡ flat_map (full_of v.version compat) folding
  unfolding folded_parts
  parts_of_folding compat c folding is = ap (flat_map (full_of v.version compat)) (sym is)

  -- a list that was folded, decomposed
  decomposed_folded : (compat : Bool) (ds : List ℕ) → decomposed v.version compat (fold_all v.foldings ds) ≡ order (flat_map (folded_parts v compat) ds)
  unfolding decomposed fold_all folded_parts
  decomposed_folded compat ds = ap order (flat_map-flat_map (full_of v.version compat) (folding_at v.foldings) ds)

  -- the first step from a list that isn't in order yet
  in_order : (compat : Bool) (ds : List ℕ) → list_all (stays v compat) ds ≡ true
      → decomposed v.version compat (fold_all v.foldings (order ds)) ≡ order (flat_map (folded_parts v compat) ds)
  in_order compat ds all =
      decomposed_folded compat (order ds) ∙ ordered_before (class_of v.version) (folded_parts v compat) (stays v compat) (fixed_of compat) ds all

  first_step : (compat : Bool) (xs : List ℕ) → list_all (stays v compat) (flat_map D xs) ≡ true
      → decomposed v.version compat (fold_all v.foldings (decomposed v.version false xs)) ≡ order (flat_map (once_folded v compat) xs)
  unfolding decomposed once_folded
  first_step compat xs all = in_order compat (flat_map D xs) all ∙ ap order (flat_map-flat_map (folded_parts v compat) D xs)

  canonical : (xs ys : List ℕ) → AreImages v false xs ys
      → decomposed v.version false (fold_all v.foldings (decomposed v.version false xs)) ≡ order (flat_map D ys)
  unfolding last_parts
  canonical xs ys h = first_step false xs h.first ∙ ap order (sym h.parts)

  compatible : (xs ys : List ℕ) → AreImages v true xs ys
      → decomposed v.version true (fold_all v.foldings (decomposed v.version true (fold_all v.foldings (decomposed v.version false xs))))
      ≡ order (flat_map K ys)
  unfolding last_parts
  compatible xs ys h =
      let once = flat_map (once_folded v true) xs in
      ap (λ l. decomposed v.version true (fold_all v.foldings l)) (first_step true xs h.first)
      ∙ in_order true once (h.second refl)
      ∙ ap order (flat_map-flat_map (folded_parts v true) (once_folded v true) xs ∙ sym h.parts)

  -- the caseless list is the normal form of the images
  pub images_caseless : (form : Form) (xs ys : List ℕ) → AreImages v (is_compat form) xs ys → caseless v form xs ≡ normal_form v.version form ys
  unfolding caseless normal_form decomposed
  images_caseless Nfd xs ys h = canonical xs ys h
  images_caseless Nfc xs ys h = ap (ended v.version true) (canonical xs ys h)
  images_caseless Nfkd xs ys h = compatible xs ys h
  images_caseless Nfkc xs ys h = ap (ended v.version true) (compatible xs ys h)

  -- what was found out of two lists
  once_is : (compat : Bool) (xs first once : List ℕ) → first ≡ flat_map D xs → once ≡ flat_map (folded_parts v compat) first
      → once ≡ flat_map (once_folded v compat) xs
  unfolding once_folded
  once_is compat xs first once of_first of_once = of_once ∙ ap (flat_map (folded_parts v compat)) of_first ∙ flat_map-flat_map (folded_parts v compat) D xs

  -- canonically
  pub images_once : (compat : Bool) (xs ys first once parts : List ℕ) → compat ≡ false → first ≡ flat_map D xs → list_all (stays v compat) first ≡ true
      → once ≡ flat_map (folded_parts v compat) first → parts ≡ flat_map (full_of v.version compat) ys → parts ≡ once → AreImages v compat xs ys
  unfolding last_parts
  images_once true xs ys first once parts e of_first stay of_once of_parts same = cc
  images_once false xs ys first once parts e of_first stay of_once of_parts same =
      record {
        first = ap (list_all (stays v false)) (sym of_first) ∙ stay;
        second = λ none. cc;
        parts = sym of_parts ∙ same ∙ once_is false xs first once of_first of_once;
      }

  -- compatibly
  pub images_twice : (compat : Bool) (xs ys first once last parts : List ℕ) → compat ≡ true → first ≡ flat_map D xs → list_all (stays v compat) first ≡ true
      → once ≡ flat_map (folded_parts v compat) first → list_all (stays v compat) once ≡ true → last ≡ flat_map (folded_parts v compat) once
      → parts ≡ flat_map (full_of v.version compat) ys → parts ≡ last → AreImages v compat xs ys
  unfolding last_parts
  images_twice false xs ys first once last parts e of_first stay of_once stay_once of_last of_parts same = cc
  images_twice true xs ys first once last parts e of_first stay of_once stay_once of_last of_parts same =
      let is = once_is true xs first once of_first of_once in
      record {
        first = ap (list_all (stays v true)) (sym of_first) ∙ stay;
        second = λ yes. ap (list_all (stays v true)) (sym is) ∙ stay_once;
        parts =
            sym of_parts ∙ same ∙ of_last ∙ ap (flat_map (folded_parts v true)) is ∙ flat_map-flat_map (folded_parts v true) (once_folded v true) xs;
      }

  -- images of one list behind those of another
  pub images_more : (compat : Bool) (xs ys ws zs : List ℕ) → AreImages v compat xs ys → AreImages v compat ws zs → AreImages v compat (xs ++ ws) (ys ++ zs)
  images_more compat xs ys ws zs h k =
      record {
        first = all_more (stays v compat) D xs ws h.first k.first;
        second = λ e. all_more (stays v true) (once_folded v true) xs ws (h.second e) (k.second e);
        parts =
            flat_map-append (full_of v.version compat) ys zs ∙ ap₂ (λ a b. a ++ b) h.parts k.parts ∙ sym (flat_map-append (last_parts v compat) xs ws);
      }

  -- nothing stands in place of nothing
  pub no_images : (compat : Bool) → AreImages v compat [] []
  no_images compat = record { first = refl; second = λ e. refl; parts = refl }

-- what is there, and what the next code point leads to behind it
pub flat_next : (f : ℕ → List ℕ) (bs xs done added : List ℕ) (i x : ℕ) → i < length xs → x ≡ get_or xs i x → done ≡ bs ++ flat_map f (take i xs) → f x ≡ added
    → done ++ added ≡ bs ++ flat_map f (take (i + 1) xs)
flat_next f bs xs done added i x lt here before is =
    let more : take (i + 1) xs ≡ take i xs ++ x ∷ [] = take_more xs i x lt ∙ ap (λ (k : ℕ). take i xs ++ k ∷ []) (sym here) in
    ap₂ (λ a b. a ++ b) before (sym is) ∙ flat_map_more f bs (take i xs) x ∙ ap (λ l. bs ++ flat_map f l) (sym more)

-- a test of one more
pub all_next : (p : ℕ → Bool) (xs : List ℕ) (i x : ℕ) → i < length xs → x ≡ get_or xs i x → list_all p (take i xs) ≡ true → p x ≡ true
    → list_all p (take (i + 1) xs) ≡ true
all_next p xs i x lt here before is =
    let more : take (i + 1) xs ≡ take i xs ++ x ∷ [] = take_more xs i x lt ∙ ap (λ (k : ℕ). take i xs ++ k ∷ []) (sym here) in
    ap (list_all p) more ∙ list_all-append p (take i xs) (x ∷ []) ∙ and_from _ _ before (and_from _ _ is refl)

-- What a table lends of a code point that is no syllable of the arithmetic.
module _ (v : VersionData) (sound : IsSound v) (compat : Bool) (c : ℕ) (lent : List ℕ) (is : IsLent v compat c lent)
    (plain : (has_hangul v && is_syllable c) ≡ false) where
  pub lent_unmapped : (none : Bool) → none ≡ eqb (length lent) 0 → none ≡ true → is_final v compat c ≡ true
  lent_unmapped none test h =
      elim (cases_Bool (is_final v compat c)) [
        | inl final ↦ final
        | inr counts ↦
            let full = full_of-only v compat sound.shallow c lent (is.full counts plain) in
            absurd (omega (arith, ap length full, full_of-some v compat c, eqb-true (length lent) 0 (sym test ∙ h)))
      ]

  pub lent_none : (none : Bool) → none ≡ eqb (length lent) 0 → none ≡ true → full_of v compat c ≡ c ∷ []
  lent_none none test h = full_of-final v compat sound.shallow c (lent_unmapped none test h)

  pub lent_some : (none : Bool) → none ≡ eqb (length lent) 0 → none ≡ false → lent ≡ full_of v compat c
  lent_some none test h =
      elim (cases_Bool (is_final v compat c)) [
        | inl final ↦ absurd (both_ways (eqb (length lent) 0) (sym test ∙ h) (eq-eqb (length lent) 0 (ap length (is.final final))))
        | inr counts ↦ full_of-only v compat sound.shallow c lent (is.full counts plain)
      ]

-- Code points that are their own images.
module _ (v : FoldedVersion) (sound : IsSound v.version) where
  abbrev quiet : ℕ → Bool
  quiet = is_quiet v.foldings

  abbrev Canonical : ℕ → List ℕ
  Canonical = full_of v.version false

  abbrev Compatible : ℕ → List ℕ
  Compatible = full_of v.version true

  -- what is quiet leads to its full decomposition
  quiet_parts : (compat : Bool) (c : ℕ) → quiet c ≡ true → folded_parts v compat c ≡ full_of v.version compat c
  quiet_parts compat c h =
      parts_of_folding v compat c (c ∷ []) (sym (quiet_folds v.foldings c h)) ∙ append-nil (full_of v.version compat c)

  -- what is quiet and without a mapping stays
  pub alone_all : (compat : Bool) (ds : List ℕ) → list_all quiet ds ≡ true → list_all (is_final v.version compat) ds ≡ true
      → (list_all (stays v compat) ds ≡ true) × (ds ≡ flat_map (folded_parts v compat) ds)
  alone_all compat [] quiets finals = (refl, refl)
  alone_all compat (d ∷ ds) quiets finals =
      let both = and_parts (quiet d) (list_all quiet ds) quiets in
      let final = and_parts (is_final v.version compat d) (list_all (is_final v.version compat) ds) finals in
      let alone = quiet_parts compat d both.0 ∙ full_of-final v.version compat sound.shallow d final.0 in
      let rest = alone_all compat ds both.1 final.1 in
      (and_from _ _ (alone_stays v compat d alone) rest.0, ap₂ (λ x ys. x ++ ys) (sym alone) rest.1)

  finals_of : (compat : Bool) (c : ℕ) → list_all (is_final v.version compat) (full_of v.version compat c) ≡ true
  finals_of compat c =
      ap (list_all (is_final v.version compat)) (sym (append-nil (full_of v.version compat c))) ∙ final-decomposed v.version compat sound.shallow (c ∷ [])

  -- canonically
  pub own_canonical : (compat : Bool) (c : ℕ) → compat ≡ false → list_all quiet (Canonical c) ≡ true → AreImages v compat (c ∷ []) (c ∷ [])
  own_canonical true c e quiets = cc
  own_canonical false c e quiets =
      let ds = Canonical c in
      let alone = alone_all false ds quiets (finals_of false c) in
      images_once v false (c ∷ []) (c ∷ []) ds ds ds refl (sym (append-nil ds)) alone.0 alone.1 (sym (append-nil ds)) refl

  -- compatibly, where both decompositions are one
  pub own_both : (compat : Bool) (c : ℕ) → compat ≡ true → list_all quiet (Compatible c) ≡ true → Canonical c ≡ Compatible c
      → AreImages v compat (c ∷ []) (c ∷ [])
  own_both false c e quiets same = cc
  own_both true c e quiets same =
      let ds = Compatible c in
      let alone = alone_all true ds quiets (finals_of true c) in
      images_twice v true (c ∷ []) (c ∷ []) ds ds ds ds refl (sym (append-nil (Canonical c) ∙ same)) alone.0 alone.1 alone.0 alone.1 (sym (append-nil ds)) refl

  -- compatibly, where it has no canonical one
  pub own_starter : (compat : Bool) (c : ℕ) → compat ≡ true → quiet c ≡ true → list_all quiet (Compatible c) ≡ true → Canonical c ≡ c ∷ []
      → class_of v.version c ≡ 0 → AreImages v compat (c ∷ []) (c ∷ [])
  own_starter false c e alone quiets only starter = cc
  own_starter true c e alone quiets only starter =
      let ds = Compatible c in
      let rest = alone_all true ds quiets (finals_of true c) in
      let stay = and_from (stays v true c) true (starter_stays v true c (class_of v.version c) refl starter) refl in
      let once = sym (append-nil (folded_parts v true c) ∙ quiet_parts true c alone) in
      images_twice v true (c ∷ []) (c ∷ []) (c ∷ []) ds ds ds refl (sym (append-nil (Canonical c) ∙ only)) stay once rest.0 rest.1 (sym (append-nil ds)) refl

  -- whichever kind, where both decompositions are one, without a code point that folds
  pub own_of : (compat : Bool) (c : ℕ) → list_all quiet (Compatible c) ≡ true → Canonical c ≡ Compatible c → AreImages v compat (c ∷ []) (c ∷ [])
  own_of true c quiets same = own_both true c refl quiets same
  own_of false c quiets same = own_canonical false c refl (ap (list_all quiet) same ∙ quiets)

-- one code point of a list of one
pub quiet_one : (v : FoldedVersion) (c : ℕ) → list_all (is_quiet v.foldings) (c ∷ []) ≡ true → is_quiet v.foldings c ≡ true
quiet_one v c h = (and_parts (is_quiet v.foldings c) true h).0

-- one more code point behind a text, and one more text
pub encoded_one : (before after ys : List ℕ) (c : ℕ) → before ≡ encode_utf8_all ys → after ≡ before ++ encode_utf8 c → after ≡ encode_utf8_all (ys ++ c ∷ [])
encoded_one before after ys c is more =
    more ∙ ap (λ l. l ++ encode_utf8 c) is ∙ ap (λ l. encode_utf8_all ys ++ l) (sym (append-nil (encode_utf8 c)))
    ∙ sym (flat_map-append encode_utf8 ys (c ∷ []))

pub encoded_text : (before after ys text zs : List ℕ) → before ≡ encode_utf8_all ys → text ≡ encode_utf8_all zs → after ≡ before ++ text
    → after ≡ encode_utf8_all (ys ++ zs)
encoded_text before after ys text zs is of_text more = more ∙ ap₂ (λ a b. a ++ b) is of_text ∙ sym (flat_map-append encode_utf8 ys zs)

-- a normal form of the images is the caseless list
pub IsCaseless-images : (v : FoldedVersion) → IsSound v.version → (form : Form) (xs ys zs : List ℕ) → AreImages v (is_compat form) xs ys
    → IsNormalForm v.version form ys zs → IsCaseless v form xs zs
IsCaseless-images v sound form xs ys zs images normal =
    IsCaseless-value v sound form xs zs (normal_form_is v.version sound form ys zs normal ∙ sym (images_caseless v form xs ys images))

-- code points that are their own images
pub marked_images : (v : FoldedVersion) (compat : Bool) (own xs : List ℕ) → ((c : ℕ) → IsMarked own c → AreImages v compat (c ∷ []) (c ∷ []))
    → All (IsMarked own) xs → AreImages v compat xs xs
marked_images v compat own [] each marked = no_images v compat
marked_images v compat own (x ∷ xs) each marked =
    images_more v compat (x ∷ []) (x ∷ []) xs xs (each x (All-head (IsMarked own) x xs marked))
    (marked_images v compat own xs each (All-tail (IsMarked own) x xs marked))

-- a text that is its own images, by whatever makes its normal form
pub ok_caseless : {A E : Type 0} (v : FoldedVersion) → IsSound v.version → (form : Form) (xs : List ℕ) (bytes : A → List ℕ) (r : Result A E)
    → AreImages v (is_compat form) xs xs → IfOk r (λ t. IsNormalForm v.version form xs (chars (bytes t)))
    → IfOk r (λ t. IsCaseless v form xs (chars (bytes t)))
ok_caseless v sound form xs bytes (Ok t) images normal = IsCaseless-images v sound form xs xs (chars (bytes t)) images normal
ok_caseless v sound form xs bytes (Err e) images normal = tt
