-- Rows of two versions in which no code point has a break.
use Rattle.std.proofs.Common.{◌≡◌, ◌≢◌, ℕ, zero, suc, ◌<◌, ◌⊎◌, Bool, true, false, not, ◌&&◌, IsTrue, List, [], ◌∷◌, length, Option, Some, None, is_some, refl, sym, subst, ap, ap₂, ◌∙◌, arith, inl, inr, bytes_eq}
use Rattle.std.specs.List.{All, slice_get}
use Rattle.std.proofs.lemmas.Bool.{cases_Bool, and_from, and_left, and_parts, and_right, both_ways, false_from_ne_true}
use Rattle.std.proofs.lemmas.List.Elements.{All-contains}
use Rattle.std.proofs.lemmas.Option.{none-some, same_Some}
use Rattle.std.proofs.lemmas.Slice.Eq.{bytes_eq-Decides}
use Rattle.np_chain.specs.inside.BreakTests.{break_of, is_same_kind, maps_alike, has_old_parts}
use Rattle.np_chain.specs.declared.breaks.BreakKind.{BreakKind}
use Rattle.np_chain.specs.inside.KeptRows.{AddsNoBreak, HasNoPair, IsKept, IsSameWithin, LiesSame}
use Rattle.np_chain.proofs.BreakLemmas.{break-neither, none_where_same}
use Rattle.np_chain.proofs.SyllableLemmas.{alike-listed, alike-syllable, old_parts-syllable}
use Rattle.np_code_points.specs.Hangul.{is_syllable}
use Rattle.np_versions.specs.Conditions.{IsSound}
use Rattle.np_versions.specs.Versions.{VersionData, entry_at, class_of, file_kind, file_mapping, has_hangul, is_assigned, is_canonical}
use Rattle.np_versions.specs.declared.pairs.Composite.{Composite}
use Rattle.np_versions.specs.CompositeLists.{AreOfFile}
use Rattle.np_versions.specs.inside.Primaries.{is_primary, is_starter_pair}
use Rattle.np_versions.proofs.RowLemmas.{class_of-at, is_assigned-at, file_kind-found, file_mapping-found, at-found, entry_at-row, entry_at-within}
use Rattle.np_versions.proofs.RowLemmas.{place_of_entry}
use Rattle.np_versions.proofs.CompositeLemmas.{primary-from, primary-test, primary-file, primary-syllable}
use Rattle.np_versions.proofs.HangulLemmas.{hangul_parts, syllable_hangul, syllable_row}
use Rattle.np_ucd.specs.Entries.{Entry, HasLength}
use Rattle.np_ucd.specs.declared.rows.MapKind.{MapKind}
use Rattle.np_ucd.specs.declared.rows.MapKind.TheVariants.{Plain, Canonical, Compatibility}

-- what the call of `is_none` tells
pub no_break : (o broken : Option BreakKind) (b : Bool) → o ≡ broken → is_some o ≡ not b → IsTrue b → broken ≡ None
no_break None broken b is tells none = sym is
no_break (Some kind) broken true is tells none = cc
no_break (Some kind) broken false is tells none = cc

-- ---- a row that has no pair

nil_from_none : (xs : List ℕ) → length xs ≡ 0 → xs ≡ []
nil_from_none [] h = refl
nil_from_none (x ∷ xs) h = absurd (omega arith)

-- what the file says of a code point in such a row
pub record IsUnpaired (v : VersionData) (c : ℕ) : Type 0 where
  pub assigned : is_assigned v c ≡ true
  pub no_pair : file_kind v c ≡ Canonical → length (file_mapping v c) ≡ 1

unpaired_of : (v : VersionData) (c : ℕ) (e : Entry) → entry_at v.entries c ≡ Some e → HasNoPair e → IsUnpaired v c
unpaired_of v c e at single =
    record {
      assigned = is_assigned-at v c ∙ ap is_some at;
      no_pair = λ is. ap length (file_mapping-found v c e at) ∙ single (sym (file_kind-found v c e at) ∙ is);
    }

single_starts : (ccc : ℕ → ℕ) (xs : List ℕ) → length xs ≡ 1 → is_starter_pair ccc xs ≡ false
single_starts ccc [] h = refl
single_starts ccc (a ∷ []) h = refl
single_starts ccc (a ∷ b ∷ xs) h = absurd (omega arith)

pair_test : (k : MapKind) (ccc : ℕ → ℕ) (xs : List ℕ) → (k ≡ Canonical → length xs ≡ 1) → (is_canonical k && is_starter_pair ccc xs) ≡ false
pair_test Plain ccc xs single = refl
pair_test Canonical ccc xs single = single_starts ccc xs (single refl)
pair_test Compatibility ccc xs single = refl

-- such a code point is a primary composite exactly where it is a syllable
unpaired_primary : (v : VersionData) (c : ℕ) → IsSound v → IsUnpaired v c → is_primary v c ≡ is_syllable c
unpaired_primary v c sound is_one =
    elim (cases_Bool (is_syllable c)) [
      | inl is ↦
          primary-test v c (primary-syllable v c sound.rows (and_from _ _ (sound.hangul c (syllable_hangul c is) is_one.assigned) is)) ∙ sym is
      | inr not ↦
          sym (primary-file v c (and_right (has_hangul v) _ not))
          ∙ and_left _ _ (pair_test (file_kind v c) (class_of v) (file_mapping v c) is_one.no_pair) ∙ sym not
    ]

-- two mappings of one kind
same_mapping : (k : MapKind) (xs ys : List ℕ) → HasLength k (length xs) → HasLength k (length ys) → (k ≢ Plain → ys ≡ xs) → ys ≡ xs
same_mapping Plain xs ys a b h = nil_from_none ys b ∙ sym (nil_from_none xs a)
same_mapping Canonical xs ys a b h = h (λ e. cc)
same_mapping Compatibility xs ys a b h = h (λ e. cc)

same_kind_self : (k : MapKind) → is_same_kind k k ≡ true
same_kind_self Plain = refl
same_kind_self Canonical = refl
same_kind_self Compatibility = refl

module _ (old new : VersionData) (sound_old : IsSound old) (sound_new : IsSound new) where
  -- a code point of two rows with one mapping
  rows_alike : (c : ℕ) (e f : Entry) → entry_at old.entries c ≡ Some e → entry_at new.entries c ≡ Some f → IsSameWithin e f → maps_alike old new c ≡ true
  rows_alike c e f at_e at_f within =
      elim (cases_Bool (is_syllable c)) [
        | inl is ↦ alike-syllable old new c sound_old sound_new (is_assigned-at old c ∙ ap is_some at_e) (is_assigned-at new c ∙ ap is_some at_f) is
        | inr not ↦
            let row = entry_at-row old.entries c e sound_old.rows at_e in
            let other = entry_at-row new.entries c f sound_new.rows at_f in
            let kind : f.kind ≡ e.kind = within.kind in
            let mapping : f.mapping ≡ e.mapping = same_mapping e.kind e.mapping f.mapping row.fits (subst (λ k. HasLength k (length f.mapping)) kind other.fits) within.mapping in
            let k : file_kind new c ≡ e.kind = file_kind-found new c f at_f ∙ kind in
            let l : file_kind old c ≡ e.kind = file_kind-found old c e at_e in
            let m : file_mapping new c ≡ e.mapping = file_mapping-found new c f at_f ∙ mapping in
            let n : file_mapping old c ≡ e.mapping = file_mapping-found old c e at_e in
            sym (alike-listed old new c not)
            ∙ ap₂ (λ (x y : Bool). x && y) (ap₂ is_same_kind k l ∙ same_kind_self e.kind) (ap₂ bytes_eq m n ∙ (bytes_eq-Decides e.mapping e.mapping).1 refl)
      ]

  -- ---- a row of the old version

  pub kept-single : (at : ℕ) (r : Entry) → slice_get old.entries at ≡ Some r → r.first ≡ r.last → break_of old new r.first ≡ None → IsKept old new at
  kept-single at r is single none c e is_e at_c =
      let same = same_Some r e (sym is ∙ is_e) in
      let within = entry_at-within old.entries c e at_c in
      let low : e.first ≡ c = (let f = ap (λ (x : Entry). x.first) same in let l = ap (λ (x : Entry). x.last) same in let a = within.0 in let b = within.1 in omega arith) in
      sym (ap (break_of old new) (ap (λ (x : Entry). x.first) same ∙ low)) ∙ none

  pub kept-same : (at : ℕ) (r : Entry) → slice_get old.entries at ≡ Some r → LiesSame new r → IsKept old new at
  kept-same at r is lies c e is_e at_c =
      let same = same_Some r e (sym is ∙ is_e) in
      let at_r : entry_at old.entries c ≡ Some r = at_c ∙ ap Some (sym same) in
      let within = entry_at-within old.entries c r at_r in
      let w = lies.wide in
      let begins = entry_at-within new.entries r.first w lies.found in
      let place = place_of_entry new.entries r.first w lies.found in
      let past = lies.within.last in
      let at_w : entry_at new.entries c ≡ Some w =
      sym (at-found new.entries place.0 c w sound_new.rows place.2 (let a = within.0 in let b = begins.0 in omega arith) (let a = within.1 in omega arith)) ∙ place.2 in
      let single = lies.within.no_pair in
      let here = unpaired_of old c r at_r single in
      let there = unpaired_of new c w at_w (λ k. ap length (lies.within.mapping (λ p. cc)) ∙ single (sym lies.within.kind ∙ k)) in
      none_where_same old new c here.assigned there.assigned
      (sym (class_of-at new c (Some w) (sym at_w)) ∙ lies.within.class ∙ class_of-at old c (Some r) (sym at_r))
      (rows_alike c r w at_r at_w lies.within)
      (unpaired_primary old c sound_old here ∙ sym (unpaired_primary new c sound_new there))

-- ---- what the old version lacks

-- a syllable that the old version lacks: so it lacks its parts
lacks_parts : (old new : VersionData) (c : ℕ) → IsSound old → has_hangul new ≡ true → is_syllable c ≡ true → is_assigned old c ≡ false → has_old_parts old new c ≡ false
lacks_parts old new c sound on is lacks =
    sym (old_parts-syllable old new c sound is on)
    ∙ false_from_ne_true _ (λ here. both_ways _ lacks (hangul_parts old c (syllable_row old c here is)).assigned)

-- a code point is no primary composite, or a syllable of the arithmetic, or one of the composites of the file
pub adds_by_composites : (old new : VersionData) → IsSound old → (cs : List Composite) → AreOfFile new cs → All (λ x. AddsNoBreak old new x.code) cs → (c : ℕ) → AddsNoBreak old new c
adds_by_composites old new sound cs file each c lacks =
    elim (cases_Bool (is_primary new c)) [
      | inr not ↦ break-neither old new c lacks (and_left _ _ not)
      | inl is ↦ elim (cases_Bool (has_hangul new && is_syllable c)) [
        | inl both ↦
            let halves = and_parts (has_hangul new) _ both in
            break-neither old new c lacks (and_right (is_primary new c) _ (lacks_parts old new c sound halves.0 halves.1 lacks))
        | inr off ↦
            let primary = primary-from new c is in
            let stands = file.all primary.first primary.second c (record { primary = primary; mapping = primary.pair }) off in
            All-contains (λ x. AddsNoBreak old new x.code) cs _ each stands lacks
      ]
    ]

-- ---- all rows

cases_entry : (o : Option Entry) → (o ≡ None) ⊎ ((e : Entry) × (o ≡ Some e))
cases_entry None = inl refl
cases_entry (Some e) = inr (e, refl)

-- a place behind the rows has none
past_rows : (es : List Entry) (at : ℕ) (e : Entry) → slice_get es at ≡ Some e → at < length es
past_rows [] at e is = absurd (none-some e is)
past_rows (x ∷ xs) zero e is = omega arith
past_rows (x ∷ xs) (suc at) e is = let lt = past_rows xs at e is in omega arith

module _ (old new : VersionData) where
  pub kept_all : (n : ℕ) → n ≡ length old.entries → ((at : ℕ) → at < n → IsKept old new at) → (at : ℕ) → IsKept old new at
  kept_all n end each at c e is = let lt = past_rows old.entries at e is in each at (omega arith) c e is

  pub none_by_rows : ((at : ℕ) → IsKept old new at) → ((c : ℕ) → AddsNoBreak old new c) → (c : ℕ) → break_of old new c ≡ None
  none_by_rows kept adds c =
      elim (cases_entry (entry_at old.entries c)) [
        | inr some ↦ (let place = place_of_entry old.entries c some.0 some.1 in kept place.0 c some.0 place.2 some.1)
        | inl none ↦ adds c (is_assigned-at old c ∙ ap is_some none)
      ]
