-- A folding that meets the conditions with two versions, of which one extends the other.
use Rattle.std.proofs.Common.{◌≡◌, ℕ, zero, suc, ◌≤◌, ◌&&◌, Bool, true, false, List, [], ◌∷◌, ◌++◌, length, flat_map, refl, sym, ap, subst, ◌∙◌, inl, inr, arith}
use Rattle.std.specs.List.{list_all}
use Rattle.std.proofs.lemmas.Bool.{and_from, and_parts, cases_Bool, cases_eq, cases_lt, cond-true}
use Rattle.std.proofs.lemmas.List.{append-nil}
use Rattle.std.proofs.lemmas.List.Elements.{All-cons, All-nil}
use Rattle.np_chain.proofs.ExampleLemmas.{extension_is_met}
use Rattle.np_code_points.specs.Hangul.{is_syllable, syllable_pair}
use Rattle.np_code_points.specs.declared.forms.Form.TheVariants.{Nfkd}
use Rattle.np_foldings.specs.Foldings.{AreFoldings, IsFolding}
use Rattle.np_forms.specs.inside.NormalForms.{normal_form}
use Rattle.np_ucd.specs.declared.rows.MapKind.TheVariants.{Canonical}
use Rattle.np_versions.specs.Conditions.{IsSound}
use Rattle.np_versions.specs.Examples.{with_hangul, with_rows}
use Rattle.np_versions.specs.Mappings.{IsFullDecomposition, counts, is_final, parts}
use Rattle.np_versions.specs.Versions.{VersionData, decomposition_kind, decomposition_mapping, has_hangul, is_assigned, is_empty, is_hangul}
use Rattle.np_versions.specs.inside.FullDecompositions.{full_of}
use Rattle.np_versions.proofs.ExampleLemmas.{IsSound-with_hangul, IsSound-with_rows, by_mapping, hangul_on_with, hangul_rows, letter_mapping, no_hangul, pair_kind, pair_mapping, ring_mapping, syllable_lacks, three_codes}
use Rattle.np_versions.proofs.MappingLemmas.{full_decomposition-flat_map, full_of-final, full_of-mapped, parts-cases}
use Rattle.np_caseless.specs.Caseless.{IsCaseless}
use Rattle.np_caseless.specs.Conditions.{IsSoundFolding}
use Rattle.np_caseless.specs.Examples.{letter_folds}
use Rattle.np_caseless.specs.Folded.{FoldedVersion, folded_by, folding_at, is_quiet}
use Rattle.np_caseless.specs.Laws.{ConditionsAreMet}
use Rattle.np_caseless.specs.inside.FirstFaults.{IsFine, IsFoldingAt}
use Rattle.np_caseless.specs.inside.Keys.{caseless}
use Rattle.np_caseless.proofs.FineLemmas.{plain_fine, syllable_fine}
use Rattle.np_caseless.proofs.KeyLemmas.{caseless_is}
use Rattle.np_caseless.proofs.LengthLemmas.{count_compatible, twice}
use Rattle.np_caseless.proofs.ListedLemmas.{listed, quiet_where}

-- ---- the folding

letter_alone : (k c : ℕ) → IsFoldingAt letter_folds k c → c ≡ 0x41
letter_alone zero c at = cc
letter_alone (suc k) c at = cc

only_letter : (c : ℕ) → is_quiet letter_folds c ≡ false → c ≡ 0x41
only_letter c folds = let at = listed letter_folds c folds in letter_alone at.0 c at.2

letter_to_ring : folding_at letter_folds 0x41 ≡ 0x30A ∷ []
unfolding folding_at
letter_to_ring = refl

ring_stays : folding_at letter_folds 0x30A ≡ 0x30A ∷ []
unfolding folding_at
ring_stays = refl

letter_moves : is_quiet letter_folds 0x41 ≡ false
unfolding is_quiet folding_at
letter_moves = refl

ring_quiet : is_quiet letter_folds 0x30A ≡ true
unfolding is_quiet folding_at
ring_quiet = refl

others_quiet : (c : ℕ) → (c ≡ 0x41 → ⊥) → is_quiet letter_folds c ≡ true
others_quiet c other =
    elim (cases_Bool (is_quiet letter_folds c)) [ inl quiet ↦ quiet | inr folds ↦ absurd (other (only_letter c folds)) ]

hangul_quiet : (c : ℕ) → is_hangul c ≡ true → is_quiet letter_folds c ≡ true
hangul_quiet c h = quiet_where letter_folds is_hangul (λ k d lt at. ap is_hangul (letter_alone k d at)) c h

one_folding : IsFolding (record { code = 0x41; mapping = 0x30A ∷ [] })
one_folding = record { scalar_code = refl; scalars = refl; some = omega arith; few = omega arith; changes = λ e. cc }

are_foldings : AreFoldings letter_folds
are_foldings =
    record {
      each = All-cons IsFolding (record { code = 0x41; mapping = 0x30A ∷ [] }) [] one_folding (All-nil IsFolding);
      rise = λ i j d lt within. absurd (omega arith);
    }

-- ---- with a version of the three rows

abbrev ByMapping : VersionData → Type 1
ByMapping v =
    (P : ℕ → List ℕ → Type 0) → ((c : ℕ) → (has_hangul v && is_syllable c) ≡ true → P c (syllable_pair c)) → P 0xC5 (0x41 ∷ 0x30A ∷ []) → ((c : ℕ) → P c [])
    → (c : ℕ) → P c (decomposition_mapping v c)

record Toy (v : VersionData) : Type 0 where
  sound : IsSound v
  letter : is_assigned v 0x41 ≡ true
  ring : is_assigned v 0x30A ≡ true
  letter_maps : decomposition_mapping v 0x41 ≡ []
  ring_maps : decomposition_mapping v 0x30A ≡ []
  pair_kind : decomposition_kind v 0xC5 ≡ Canonical
  pair_maps : decomposition_mapping v 0xC5 ≡ 0x41 ∷ 0x30A ∷ []

module _ (v : VersionData) (toy : Toy v) where
  abbrev f : FoldedVersion
  f = folded_by v letter_folds

  bare_final : (compat : Bool) (c : ℕ) → decomposition_mapping v c ≡ [] → is_final v compat c ≡ true
  bare_final compat c none = parts-cases v compat (λ l. is_empty l ≡ true) refl c (ap is_empty none)

  full_bare : (compat : Bool) (c : ℕ) → decomposition_mapping v c ≡ [] → full_of v compat c ≡ c ∷ []
  full_bare compat c none = full_of-final v compat toy.sound.shallow c (bare_final compat c none)

  ring_full : (compat : Bool) → full_of v compat 0x30A ≡ 0x30A ∷ []
  ring_full compat = full_bare compat 0x30A toy.ring_maps

  pair_parts : parts v false 0xC5 ≡ 0x41 ∷ 0x30A ∷ []
  unfolding parts
  pair_parts = cond-true (counts false (decomposition_kind v 0xC5)) (decomposition_mapping v 0xC5) [] (ap (counts false) toy.pair_kind) ∙ toy.pair_maps

  pair_full : full_of v false 0xC5 ≡ 0x41 ∷ 0x30A ∷ []
  pair_full =
      full_of-mapped v false toy.sound.shallow 0xC5 (ap is_empty pair_parts)
      ∙ ap (flat_map (full_of v false)) pair_parts
      ∙ ap (λ l. l ++ (full_of v false 0x30A ++ [])) (full_bare false 0x41 toy.letter_maps)
      ∙ ap (λ l. 0x41 ∷ (l ++ [])) (ring_full false)

  -- ---- how long the caseless lists are

  abbrev K : ℕ → List ℕ
  K = full_of v true

  abbrev F : ℕ → List ℕ
  F = folding_at letter_folds

  abbrev inner : ℕ → List ℕ
  inner d = flat_map K (F d)

  abbrev middle : ℕ → List ℕ
  middle d = flat_map inner (K d)

  abbrev outer : ℕ → List ℕ
  outer d = flat_map middle (F d)

  inner_ring : inner 0x30A ≡ 0x30A ∷ []
  inner_ring = ap (flat_map K) ring_stays ∙ append-nil (K 0x30A) ∙ ring_full true

  middle_ring : middle 0x30A ≡ 0x30A ∷ []
  middle_ring = ap (flat_map inner) (ring_full true) ∙ append-nil (inner 0x30A) ∙ inner_ring

  outer_ring : outer 0x30A ≡ 0x30A ∷ []
  outer_ring = ap (flat_map middle) ring_stays ∙ append-nil (middle 0x30A) ∙ middle_ring

  outer_letter : outer 0x41 ≡ 0x30A ∷ []
  outer_letter = ap (flat_map middle) letter_to_ring ∙ append-nil (middle 0x30A) ∙ middle_ring

  letter_long : twice f 0x41 ≡ 0x30A ∷ []
  letter_long = ap (flat_map outer) (full_bare false 0x41 toy.letter_maps) ∙ append-nil (outer 0x41) ∙ outer_letter

  pair_long : twice f 0xC5 ≡ 0x30A ∷ 0x30A ∷ []
  pair_long =
      ap (flat_map outer) pair_full ∙ ap (λ l. l ++ (outer 0x30A ++ [])) outer_letter ∙ ap (λ l. 0x30A ∷ (l ++ [])) outer_ring

  few : (c : ℕ) → length (twice f c) ≤ 64 → (ys : List ℕ) → IsCaseless f Nfkd (c ∷ []) ys → length ys ≤ 64
  unfolding caseless normal_form
  few c most ys is =
      let same = caseless_is f toy.sound Nfkd (c ∷ []) ys is in
      omega (arith, ap length same, count_compatible f (c ∷ []), ap length (append-nil (twice f c)), most)

  fine_few : (c : ℕ) → IsFine f c → (ys : List ℕ) → IsCaseless f Nfkd (c ∷ []) ys → length ys ≤ 64
  fine_few c fine ys is =
      elim (cases_lt 64 (length ys)) [ inl lt ↦ absurd (fine.short (record { list = ys; caseless = is; long = lt })) | inr le ↦ le ]

  abbrev Short : ℕ → Type 0
  Short c = (ys : List ℕ) → IsCaseless f Nfkd (c ∷ []) ys → length ys ≤ 64

  short_bare : (c : ℕ) → decomposition_mapping v c ≡ [] → Short c
  short_bare c none =
      elim (cases_eq c 0x41) [
        | inl letter ↦ subst Short (sym letter) (few 0x41 (omega (arith, ap length letter_long)))
        | inr other ↦ fine_few c (plain_fine f toy.sound c (others_quiet c other) (bare_final true c none))
      ]

  short_syllable : (s : ℕ) → (has_hangul v && is_syllable s) ≡ true → Short s
  short_syllable s on =
      let both = and_parts (has_hangul v) (is_syllable s) on in fine_few s (syllable_fine f toy.sound both.0 hangul_quiet s both.1)

  short_of : ByMapping v → (c : ℕ) → Short c
  short_of by c =
      by (λ d m. decomposition_mapping v d ≡ m → Short d)
      (λ d on _. short_syllable d on)
      (λ _. few 0xC5 (omega (arith, ap length pair_long)))
      short_bare c refl

  -- ---- the conditions

  folds_assigned : (c : ℕ) → is_quiet letter_folds c ≡ false → is_assigned v c ≡ true
  folds_assigned c folds = ap (is_assigned v) (only_letter c folds) ∙ toy.letter

  to_assigned : (c : ℕ) → is_quiet letter_folds c ≡ false → list_all (is_assigned v) (folding_at letter_folds c) ≡ true
  to_assigned c folds =
      ap (λ d. list_all (is_assigned v) (folding_at letter_folds d)) (only_letter c folds) ∙ ap (list_all (is_assigned v)) letter_to_ring
      ∙ and_from (is_assigned v 0x30A) true toy.ring refl

  once : (compat : Bool) (c : ℕ) (full : List ℕ) → is_quiet letter_folds c ≡ false → is_final v compat c ≡ true → IsFullDecomposition v compat (folding_at letter_folds c) full
      → list_all (is_quiet letter_folds) full ≡ true
  once compat c full folds final is =
      let same = full_decomposition-flat_map v compat toy.sound.shallow (folding_at letter_folds c) full is in
      let folding : folding_at letter_folds c ≡ 0x30A ∷ [] = ap (folding_at letter_folds) (only_letter c folds) ∙ letter_to_ring in
      ap (list_all (is_quiet letter_folds)) (same ∙ ap (flat_map (full_of v compat)) folding ∙ append-nil (full_of v compat 0x30A) ∙ ring_full compat)
      ∙ and_from (is_quiet letter_folds 0x30A) true ring_quiet refl

  is_met : ByMapping v → IsSoundFolding f
  is_met by =
      record {
        version = toy.sound;
        foldings = are_foldings;
        folds_assigned = folds_assigned;
        folds_to_assigned = to_assigned;
        folds_once = once;
        short = short_of by;
      }

toy_rows : Toy with_rows
toy_rows =
    let three = three_codes [] in
    record {
      sound = IsSound-with_rows;
      letter = three.letter.0;
      ring = three.ring.0;
      letter_maps = letter_mapping [];
      ring_maps = ring_mapping [];
      pair_kind = pair_kind [];
      pair_maps = pair_mapping [];
    }

toy_hangul : Toy with_hangul
toy_hangul =
    let three = three_codes hangul_rows in
    record {
      sound = IsSound-with_hangul;
      letter = three.letter.0;
      ring = three.ring.0;
      letter_maps = letter_mapping hangul_rows;
      ring_maps = ring_mapping hangul_rows;
      pair_kind = pair_kind hangul_rows;
      pair_maps = pair_mapping hangul_rows;
    }

pub conditions_are_met : ConditionsAreMet
conditions_are_met = (
  is_met with_rows toy_rows (by_mapping [] IsSound-with_rows.rows tt (λ c among h. absurd (no_hangul c among h))),
  is_met with_hangul toy_hangul (by_mapping hangul_rows IsSound-with_hangul.rows (refl, (refl, tt)) (λ _ _ _. hangul_on_with)),
  record { extends = extension_is_met.2; folds = λ c h. refl },
  letter_moves,
  syllable_lacks,
)
