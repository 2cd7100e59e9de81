-- Marks of code points that are their own images, and what the others are looked for by.
use Rattle.std.proofs.Common.{◌≡◌, ℕ, ◌+◌, ◌<◌, ◌≤◌, ◌&&◌, Bool, true, false, List, [], ◌∷◌, length, flat_map, get_or, Some, None, refl, sym, ap, subst, ◌∙◌, inl, inr, arith}
use Rattle.std.specs.List.{list_all, slice_get}
use Rattle.std.specs.Option.{option_map}
use Rattle.std.proofs.lemmas.Bool.{and_from, and_parts, both_ways, cases_Bool}
use Rattle.std.proofs.lemmas.Grind.{get_or_default_zero}
use Rattle.np_code_points.specs.Hangul.{is_syllable}
use Rattle.np_foldings.specs.Foldings.{Folding}
use Rattle.np_code_points.specs.declared.forms.Form.TheVariants.{Nfkd}
use Rattle.np_forms.specs.inside.NormalForms.{decomposed, normal_form}
use Rattle.np_forms.proofs.FormLemmas.{IsNormalForm-normal_form, length-normal_form}
use Rattle.np_forms.proofs.OrderLemmas.{length-canonical_order}
use Rattle.np_forms.proofs.SyllableLemmas.{full_of-syllable}
use Rattle.np_caseless.specs.Faults.{IsFoldedTooLong}
use Rattle.np_ucd.specs.Entries.{Entry}
use Rattle.np_versions.specs.Conditions.{IsSound}
use Rattle.np_versions.specs.Mappings.{is_final}
use Rattle.np_versions.specs.Versions.{class_of, has_hangul, is_hangul}
use Rattle.np_versions.specs.inside.FullDecompositions.{full_of}
use Rattle.np_versions.proofs.HangulLemmas.{shape_of}
use Rattle.np_versions.proofs.MappingLemmas.{full_of-final}
use Rattle.np_caseless.specs.Folded.{FoldedVersion, is_quiet}
use Rattle.np_caseless.specs.inside.FirstFaults.{AreMapped, Below, IsCodeAt, IsFoldingAt, IsOfArithmetic, IsRowAt}
use Rattle.np_caseless.specs.inside.Images.{AreImages}
use Rattle.np_caseless.specs.inside.ImageTables.{IsCleared, IsLessMarked, IsMarked, IsTold, IsUnmarked}
use Rattle.np_caseless.proofs.FineLemmas.{mapped_where, parts_all}
use Rattle.np_caseless.proofs.FirstLemmas.{below_next}
use Rattle.np_caseless.proofs.ImageLemmas.{images_caseless, own_of}
use Rattle.np_caseless.proofs.KeyLemmas.{caseless_is}
use Rattle.np_caseless.proofs.ListedLemmas.{listed}
use Rattle.np_caseless.proofs.QuietLemmas.{final_weaker}

-- ---- one more place

-- of the foldings
pub unmarked_folding : (fs : List Folding) (at code : ℕ) (before after : List ℕ) → IsFoldingAt fs at code → IsCleared before after code
    → ((c : ℕ) → Below (IsFoldingAt fs) at c → IsUnmarked before c) → (c : ℕ) → Below (IsFoldingAt fs) (at + 1) c → IsUnmarked after c
unmarked_folding fs at code before after here cleared done c h =
    elim (below_next (IsFoldingAt fs) at c h) [
      | inl less ↦ λ marked. done c less (cleared.others c marked)
      | inr there ↦ subst (IsUnmarked after) (same_code code c (sym here ∙ there)) cleared.here
    ]
  where
    same_code : (a b : ℕ) → Some a ≡ Some b → a ≡ b
    same_code a b e = cc

pub unmarked_none : (fs : List Folding) (at : ℕ) (own : List ℕ) → option_map (λ (f : Folding). f.code) (slice_get fs at) ≡ None
    → ((c : ℕ) → Below (IsFoldingAt fs) at c → IsUnmarked own c) → (c : ℕ) → Below (IsFoldingAt fs) (at + 1) c → IsUnmarked own c
unmarked_none fs at own none done c h =
    elim (below_next (IsFoldingAt fs) at c h) [
      | inl less ↦ done c less
      | inr there ↦ absurd (no_some c (sym none ∙ there))
    ]
  where
    no_some : (c : ℕ) → None ≡ Some c → ⊥
    no_some c e = cc

-- nothing is marked anew by two steps
pub less_more : (a b c : List ℕ) → IsLessMarked a b → IsLessMarked b c → IsLessMarked a c
less_more a b c first second = λ d marked. first d (second d marked)

module _ (v : FoldedVersion) where
  -- of the rows
  pub told_next : (compat : Bool) (codes : List ℕ) (at x : ℕ) (before after : List ℕ) → at < length codes → x ≡ get_or codes at x → IsLessMarked before after
      → IsTold v compat after x → ((c : ℕ) → Below (IsCodeAt codes) at c → IsTold v compat before c)
      → (c : ℕ) → Below (IsCodeAt codes) (at + 1) c → IsTold v compat after c
  told_next compat codes at x before after lt is less here done c h =
      elim (below_next (IsCodeAt codes) at c h) [
        | inl earlier ↦ λ marked. done c earlier (less c marked)
        | inr there ↦ subst (IsTold v compat after) (is ∙ get_or_default_zero codes at x lt ∙ there) here
      ]

  pub told_rows : (compat : Bool) (codes own : List ℕ) → AreMapped v.version codes
      → ((c : ℕ) → Below (IsCodeAt codes) (length codes) c → IsTold v compat own c)
      → (c : ℕ) → Below (IsRowAt v.version.entries) (length v.version.entries) c → IsTold v compat own c
  told_rows compat codes own mapped told c row =
      elim (mapped c row) [
        | inl (inl final) ↦ λ marked. inl final
        | inl (inr on) ↦ λ marked. inr (inl on)
        | inr some ↦ told c some
      ]

module _ (v : FoldedVersion) (sound : IsSound v.version) where
  -- what has no mapping and is quiet
  plain_own : (compat : Bool) (c : ℕ) → is_quiet v.foldings c ≡ true → is_final v.version true c ≡ true → AreImages v compat (c ∷ []) (c ∷ [])
  plain_own compat c quiet final =
      let weak = final_weaker v.version (c ∷ []) (and_from (is_final v.version true c) true final refl) in
      let alone : full_of v.version true c ≡ c ∷ [] = full_of-final v.version true sound.shallow c final in
      let canonical : full_of v.version false c ≡ c ∷ [] = full_of-final v.version false sound.shallow c (and_parts (is_final v.version false c) true weak).0 in
      own_of v sound compat c (ap (list_all (is_quiet v.foldings)) alone ∙ and_from (is_quiet v.foldings c) true quiet refl) (canonical ∙ sym alone)

  -- a code point that is its own image has a caseless NFKD list no longer than its NFKD form
  pub short_own : (c : ℕ) → AreImages v true (c ∷ []) (c ∷ []) → ¬ (IsFoldedTooLong v c)
  short_own c own long =
      let is = caseless_is v sound Nfkd (c ∷ []) long.list long.caseless ∙ images_caseless v Nfkd (c ∷ []) (c ∷ []) own in
      let few =
      length-normal_form v.version sound Nfkd (c ∷ []) (normal_form v.version Nfkd (c ∷ [])) (IsNormalForm-normal_form v.version sound Nfkd (c ∷ [])) in
      omega (arith, ap length is, few, long.long)

  -- a code point whose images decompose to few code points
  pub short_image : (c count : ℕ) (ys parts : List ℕ) → AreImages v true (c ∷ []) ys → parts ≡ flat_map (full_of v.version true) ys
      → count ≡ length parts → count ≤ 64
      → ¬ (IsFoldedTooLong v c)
  unfolding normal_form decomposed
  short_image c count ys parts images is counted few long =
      let same = caseless_is v sound Nfkd (c ∷ []) long.list long.caseless ∙ images_caseless v Nfkd (c ∷ []) ys images in
      let all : length (normal_form v.version Nfkd ys) ≡ length parts =
      length-canonical_order (class_of v.version) (flat_map (full_of v.version true) ys) ∙ ap length (sym is) in
      omega (arith, ap length same, all, counted, few, long.long)

  -- a syllable of the arithmetic, where no Hangul folds
  pub syllable_own : has_hangul v.version ≡ true → ((c : ℕ) → is_hangul c ≡ true → is_quiet v.foldings c ≡ true) → (compat : Bool) (s : ℕ)
      → is_syllable s ≡ true → AreImages v compat (s ∷ []) (s ∷ [])
  syllable_own on quiet compat s is =
      let same = full_of-syllable v.version false sound on s is ∙ sym (full_of-syllable v.version true sound on s is) in
      own_of v sound compat s
      (ap (list_all (is_quiet v.foldings)) (sym same) ∙ parts_all v sound on quiet (is_quiet v.foldings) (λ d jamo. quiet d jamo.hangul) s (shape_of s is) is)
      same

  -- all code points
  pub all_own : (compat : Bool) (first second third : List ℕ) → ((c : ℕ) → Below (IsFoldingAt v.foldings) (length v.foldings) c → IsUnmarked first c)
      → IsLessMarked first second → ((compat : Bool) (c : ℕ) → IsOfArithmetic v c → IsMarked second c → AreImages v compat (c ∷ []) (c ∷ []))
      → IsLessMarked second third → ((c : ℕ) → Below (IsRowAt v.version.entries) (length v.version.entries) c → IsTold v compat third c)
      → (c : ℕ) → IsMarked third c → AreImages v compat (c ∷ []) (c ∷ [])
  all_own compat first second third foldings less syllables less_still rows c marked =
      let marked_then = less_still c marked in
      let marked_first = less c marked_then in
      elim (cases_Bool (is_quiet v.foldings c)) [
        | inl quiet ↦
            elim (cases_Bool (is_final v.version true c)) [
              | inl final ↦ plain_own compat c quiet final
              | inr counts ↦
                  elim (mapped_where v sound c (has_hangul v.version && is_syllable c) refl counts) [
                    | inl row ↦
                        elim (rows c row marked) [
                          | inl final ↦ absurd (both_ways (is_final v.version true c) counts final)
                          | inr (inl on) ↦ syllables compat c on marked_then
                          | inr (inr own) ↦ own
                        ]
                    | inr on ↦ syllables compat c on marked_then
                  ]
            ]
        | inr folds ↦ absurd (foldings c (listed v.foldings c folds) marked_first)
      ]

-- the code point of a row
pub row_only : (entries : List Entry) (at c : ℕ) (e : Entry) → slice_get entries at ≡ Some e → IsRowAt entries at c → c ≡ e.first
row_only entries at c e here there = same_place c e.first (sym there ∙ ap (option_map (λ (x : Entry). x.first)) here)
  where
    same_place : (a b : ℕ) → Some a ≡ Some b → a ≡ b
    same_place a b e = cc
