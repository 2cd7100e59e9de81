-- Code points that have no fault.
use Rattle.std.proofs.Common.{◌≡◌, ◌≢◌, ℕ, ◌≤◌, ◌⊎◌, ◌&&◌, Bool, true, false, eqb, List, [], ◌∷◌, length, flat_map, Option, Some, None, refl, sym, ap, subst, ◌∙◌, inl, inr, arith}
use Rattle.std.specs.List.{list_all}
use Rattle.std.specs.Option.{option_map}
use Rattle.std.proofs.lemmas.Bool.{and_from, both_ways, cases_Bool, eqb-true}
use Rattle.std.proofs.lemmas.List.{append-nil}
use lib.Utf8.{scalar}
use Rattle.np_code_points.specs.Hangul.{is_syllable}
use Rattle.np_code_points.specs.declared.forms.Form.TheVariants.{Nfkd}
use Rattle.np_foldings.specs.Foldings.{AreFoldings}
use Rattle.np_forms.specs.inside.NormalForms.{decomposed, normal_form}
use Rattle.np_forms.proofs.FormLemmas.{decomposed-final, is_ordered-decomposed}
use Rattle.np_forms.proofs.OrderLemmas.{length-canonical_order, list_all-canonical_order}
use Rattle.np_forms.proofs.SyllableLemmas.{full_of-syllable, syllable_parts-two, syllable_parts-three}
use Rattle.np_ucd.specs.Entries.{Entry}
use Rattle.np_versions.specs.Conditions.{IsSound}
use Rattle.np_versions.specs.Mappings.{IsLent, is_final}
use Rattle.np_versions.specs.Versions.{VersionData, class_of, decomposition_mapping, entry_at, file_mapping, has_hangul, is_empty, is_hangul, mapping_in}
use Rattle.np_versions.specs.inside.FullDecompositions.{full_of}
use Rattle.np_versions.proofs.HangulLemmas.{IsJamo, PairShape, decomposition_mapping-off, jamo_bare, shape_of, syllable_hangul}
use Rattle.np_versions.proofs.MappingLemmas.{IsFullDecomposition-flat_map, full_of-final, full_of-only, full_of-some, parts-cases}
use Rattle.np_versions.proofs.RowLemmas.{entry_at-row, entry_at-within, place_of_entry}
use Rattle.np_caseless.specs.Faults.{IsFoldedAgain, IsFoldedTooLong}
use Rattle.np_caseless.specs.Folded.{FoldedVersion, fold_all, is_quiet}
use Rattle.np_caseless.specs.inside.FirstFaults.{AreMapped, Below, FoldsWell, HasNoMapping, IsFine, IsFoldingAt, IsOfArithmetic, IsQuietCodeAt, IsRowAt}
use Rattle.np_caseless.specs.inside.Keys.{caseless}
use Rattle.np_caseless.proofs.KeyLemmas.{caseless_is}
use Rattle.np_caseless.proofs.LengthLemmas.{full_of_more}
use Rattle.np_caseless.proofs.ListedLemmas.{listed, surrogate_quiet}
use Rattle.np_caseless.proofs.QuietLemmas.{final_weaker, fold_all-quiet}

-- What a table lends nothing for, and is no syllable, has no mapping.
lent_plain : (v : VersionData) (c : ℕ) (lent : List ℕ) (none : Bool) → IsSound v → IsLent v true c lent → (has_hangul v && is_syllable c) ≡ false
    → none ≡ eqb (length lent) 0 → none ≡ true
    → is_final v true c ≡ true
lent_plain v c lent none sound is plain test h =
    elim (cases_Bool (is_final v true c)) [
      | inl final ↦ final
      | inr counts ↦
          let full = full_of-only v true sound.shallow c lent (is.full counts plain) in
          let zero = eqb-true (length lent) 0 (sym test ∙ h) in
          absurd (omega (arith, ap length full, full_of-some v true c, zero))
    ]

-- What is quiet has none of the faults that only a code point that folds can have.
not_again : (v : FoldedVersion) (c : ℕ) → is_quiet v.foldings c ≡ true → ¬ (IsFoldedAgain v c)
not_again v c quiet (inl h) = both_ways (is_quiet v.foldings c) h.folds quiet
not_again v c quiet (inr h) = both_ways (is_quiet v.foldings c) h.folds quiet

pub quiet_well : (v : FoldedVersion) (c : ℕ) → is_quiet v.foldings c ≡ true → FoldsWell v c
quiet_well v c quiet =
    record {
      assigned = λ h. both_ways (is_quiet v.foldings c) h.folds quiet;
      to_assigned = λ h. both_ways (is_quiet v.foldings c) h.folds quiet;
      once = not_again v c quiet;
    }

and_true : (b : Bool) → (b && true) ≡ true → b ≡ true
and_true true h = refl
and_true false h = h

module _ (v : FoldedVersion) (sound : IsSound v.version) where
  abbrev D : ℕ → List ℕ
  D = full_of v.version false

  abbrev nfd_of : ℕ → List ℕ
  nfd_of c = decomposed v.version false (c ∷ [])

  -- the NFD form of a code point has what holds of each code point of its decomposition
  all_of_nfd : (p : ℕ → Bool) (c : ℕ) → list_all p (D c) ≡ true → list_all p (nfd_of c) ≡ true
  unfolding decomposed
  all_of_nfd p c h =
      list_all-canonical_order (class_of v.version) p (flat_map D (c ∷ [])) (ap (list_all p) (append-nil (D c)) ∙ h)

  length_of_nfd : (c : ℕ) → length (nfd_of c) ≡ length (D c)
  unfolding decomposed
  length_of_nfd c = length-canonical_order (class_of v.version) (flat_map D (c ∷ [])) ∙ ap length (append-nil (D c))

  few_in : (c : ℕ) → length (D c) ≤ 64
  few_in c =
      let some = IsFullDecomposition-flat_map v.version true sound.shallow (c ∷ []) in
      let few = sound.short c (flat_map (full_of v.version true) (c ∷ [])) some in
      omega (arith, full_of_more v.version c, few, ap length (append-nil (full_of v.version true c)))

  -- where it is quiet and without a mapping it is the caseless NFKD list
  caseless_nfd : (c : ℕ) → list_all (is_quiet v.foldings) (nfd_of c) ≡ true → list_all (is_final v.version true) (nfd_of c) ≡ true → caseless v Nfkd (c ∷ []) ≡ nfd_of c
  unfolding caseless normal_form
  caseless_nfd c quiet final =
      let ds = nfd_of c in
      let stays : fold_all v.foldings ds ≡ ds = fold_all-quiet v.foldings ds quiet in
      let same : decomposed v.version true ds ≡ ds = decomposed-final v.version sound true ds final (is_ordered-decomposed v.version sound false (c ∷ [])) in
      ap (λ xs. decomposed v.version true (fold_all v.foldings (decomposed v.version true xs))) stays
      ∙ ap (λ xs. decomposed v.version true (fold_all v.foldings xs)) same
      ∙ ap (decomposed v.version true) stays
      ∙ same

  pub not_too_long : (c : ℕ) → list_all (is_quiet v.foldings) (D c) ≡ true → list_all (is_final v.version true) (D c) ≡ true → ¬ (IsFoldedTooLong v c)
  not_too_long c quiet final long =
      let is = caseless_is v sound Nfkd (c ∷ []) long.list long.caseless in
      let nfd = caseless_nfd c (all_of_nfd (is_quiet v.foldings) c quiet) (all_of_nfd (is_final v.version true) c final) in
      let more = long.long in
      omega (arith, ap length (is ∙ nfd), length_of_nfd c, few_in c, more)

  -- what is quiet and has no mapping
  pub plain_fine : (c : ℕ) → is_quiet v.foldings c ≡ true → is_final v.version true c ≡ true → IsFine v c
  plain_fine c quiet final =
      let weak = final_weaker v.version (c ∷ []) (and_from (is_final v.version true c) true final refl) in
      let alone : D c ≡ c ∷ [] = full_of-final v.version false sound.shallow c (and_true (is_final v.version false c) weak) in
      record {
        folds = quiet_well v c quiet;
        short =
            not_too_long c
            (ap (list_all (is_quiet v.foldings)) alone ∙ and_from (is_quiet v.foldings c) true quiet refl)
            (ap (list_all (is_final v.version true)) alone ∙ and_from (is_final v.version true c) true final refl);
      }

  -- syllables, where no Hangul folds
  module _ (on : has_hangul v.version ≡ true) (quiet : (c : ℕ) → is_hangul c ≡ true → is_quiet v.foldings c ≡ true) where
    pub parts_all : (p : ℕ → Bool) → ((d : ℕ) → IsJamo d → p d ≡ true) → (s : ℕ) (shape : PairShape s) → is_syllable s ≡ true → list_all p (D s) ≡ true
    parts_all p each s shape is =
        elim shape.head [
          | inl jamo ↦
              ap (list_all p)
              (full_of-syllable v.version false sound on s is ∙ syllable_parts-two s shape.first shape.second is shape.pair jamo.single)
              ∙ and_from _ _ (each shape.first jamo) (and_from _ _ (each shape.second shape.tail) refl)
          | inr lv ↦
              ap (list_all p)
              (full_of-syllable v.version false sound on s is
              ∙ syllable_parts-three s shape.first shape.second lv.leading lv.vowel is shape.pair lv.syllable lv.pair)
              ∙ and_from _ _ (each lv.leading lv.first) (and_from _ _ (each lv.vowel lv.second) (and_from _ _ (each shape.second shape.tail) refl))
        ]

    pub jamo_final : (d : ℕ) → IsJamo d → is_final v.version true d ≡ true
    jamo_final d jamo = parts-cases v.version true (λ l. is_empty l ≡ true) refl d (ap is_empty (jamo_bare v.version d on jamo))

    pub syllable_fine : (s : ℕ) → is_syllable s ≡ true → IsFine v s
    syllable_fine s is =
        let shape = shape_of s is in
        record {
          folds = quiet_well v s (quiet s (syllable_hangul s is));
          short =
              not_too_long s (parts_all (is_quiet v.foldings) (λ d jamo. quiet d jamo.hangul) s shape is)
              (parts_all (is_final v.version true) jamo_final s shape is);
        }

  -- What has a mapping in the file has a row, whose first code point it is.
  at_row : (o : Option Entry) (c : ℕ) → entry_at v.version.entries c ≡ o → mapping_in o ≢ [] → Below (IsRowAt v.version.entries) (length v.version.entries) c
  at_row None c found some = absurd (some refl)
  at_row (Some e) c found some =
      let row = entry_at-row v.version.entries c e sound.rows found in
      let within = entry_at-within v.version.entries c e found in
      let alone = row.alone some in
      let place = place_of_entry v.version.entries c e found in
      let first : e.first ≡ c = omega (arith, alone, within.0, within.1) in
      (place.0, place.1, ap (option_map (λ (x : Entry). x.first)) place.2 ∙ ap Some first)

  in_file : (c : ℕ) → file_mapping v.version c ≢ [] → Below (IsRowAt v.version.entries) (length v.version.entries) c
  unfolding file_mapping
  in_file c some = at_row (entry_at v.version.entries c) c refl some

  mapped : (c : ℕ) → is_final v.version true c ≡ false → decomposition_mapping v.version c ≢ []
  mapped c counts none =
      both_ways (is_final v.version true c) counts (parts-cases v.version true (λ l. is_empty l ≡ true) refl c (ap is_empty none))

  -- a surrogate has no fault
  pub surrogate_final : (c : ℕ) → ¬ (scalar c ≡ true) → is_final v.version true c ≡ true
  surrogate_final c none =
      elim (cases_Bool (is_final v.version true c)) [
        | inl final ↦ final
        | inr counts ↦ absurd (none (sound.mapped_scalar c (mapped c counts)))
      ]

  pub surrogate_fine : (c : ℕ) → AreFoldings v.foldings → ¬ (scalar c ≡ true) → IsFine v c
  surrogate_fine c foldings none = plain_fine c (surrogate_quiet v.foldings c foldings.each none) (surrogate_final c none)

  pub mapped_where : (c : ℕ) (t : Bool) → (has_hangul v.version && is_syllable c) ≡ t → is_final v.version true c ≡ false
      → Below (IsRowAt v.version.entries) (length v.version.entries) c ⊎ IsOfArithmetic v c
  mapped_where c true on counts = inr on
  mapped_where c false off counts = inl (in_file c (λ none. mapped c counts (decomposition_mapping-off v.version c off ∙ none)))

  -- each code point is one of those that are looked at, or has no fault
  pub looked_at : (codes : List ℕ) → AreMapped v.version codes → (c : ℕ) → (Below (IsFoldingAt v.foldings) (length v.foldings) c
      ⊎ (Below (IsQuietCodeAt v codes) (length codes) c ⊎ IsOfArithmetic v c)) ⊎ IsFine v c
  looked_at codes are c =
      elim (cases_Bool (is_quiet v.foldings c)) [
        | inl quiet ↦
            elim (cases_Bool (is_final v.version true c)) [
              | inl final ↦ inr (plain_fine c quiet final)
              | inr counts ↦
                  elim (mapped_where c (has_hangul v.version && is_syllable c) refl counts) [
                    | inl row ↦
                        elim (are c row) [
                          | inl (inl final) ↦ absurd (both_ways (is_final v.version true c) counts final)
                          | inl (inr on) ↦ inl (inr (inr on))
                          | inr some ↦ inl (inr (inl (some.0, some.1, (some.2, quiet))))
                        ]
                    | inr on ↦ inl (inr (inr on))
                  ]
            ]
        | inr folds ↦ inl (inl (listed v.foldings c folds))
      ]

-- what a table lends nothing for has no mapping but that of the arithmetic
pub unlent_unmapped : (v : VersionData) → IsSound v → (code c : ℕ) (lent : List ℕ) (none : Bool) → code ≡ c → IsLent v true code lent
    → none ≡ eqb (length lent) 0 → none ≡ true
    → HasNoMapping v c
unlent_unmapped v sound code c lent none same is test h =
    subst (HasNoMapping v) same
    (elim (cases_Bool (has_hangul v && is_syllable code)) [
      | inl on ↦ inr on
      | inr plain ↦ inl (lent_plain v code lent none sound is plain test h)
    ])

pub surrogate_unmapped : (v : VersionData) → IsSound v → (c : ℕ) → ¬ (scalar c ≡ true) → HasNoMapping v c
surrogate_unmapped v sound c none = inl (surrogate_final (record { version = v; foldings = [] }) sound c none)
