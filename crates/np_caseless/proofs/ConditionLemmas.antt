-- What is asked of a code point that folds, and the conditions where there is no fault.
use Rattle.std.proofs.Common.{◌≡◌, ◌↔◌, ℕ, ◌<◌, ◌≤◌, Bool, true, false, not, List, [], ◌∷◌, length, flat_map, refl, sym, ap, subst, ◌∙◌, inl, inr, arith}
use Rattle.std.specs.Prelude.{IsTrue, bytes_eq}
use Rattle.std.specs.List.{list_all}
use Rattle.std.proofs.lemmas.Bool.{and_parts, both_ways, cases_Bool, cases_lt}
use Rattle.std.proofs.lemmas.List.{append-nil}
use Rattle.std.proofs.lemmas.Slice.Eq.{bytes_eq-Decides}
use Rattle.np_code_points.specs.declared.forms.Form.TheVariants.{Nfkd}
use Rattle.np_foldings.specs.Foldings.{AreFoldings}
use Rattle.np_foldings.specs.declared.lowercases.Lowercase.{Lowercase}
use Rattle.np_versions.specs.Conditions.{IsSound}
use Rattle.np_versions.specs.Mappings.{IsFullDecomposition, is_final}
use Rattle.np_versions.specs.Versions.{VersionData, is_assigned}
use Rattle.np_versions.specs.inside.FullDecompositions.{full_of}
use Rattle.np_versions.proofs.MappingLemmas.{IsFullDecomposition-flat_map, full_decomposition-flat_map, full_of-final, full_of-only}
use Rattle.np_caseless.specs.Caseless.{IsCaseless}
use Rattle.np_caseless.specs.ConditionFaults.{IsFaultless}
use Rattle.np_caseless.specs.Conditions.{IsSoundFolding}
use Rattle.np_caseless.specs.Faults.{IsFoldedAgain, IsFoldedAgainBy, IsFoldedTooLong}
use Rattle.np_caseless.specs.Folded.{FoldedVersion, folding_at, is_quiet}
use Rattle.np_caseless.specs.declared.faults.ConditionFault.TheVariants.{FoldsUnassigned, FoldsToUnassigned, FoldsAgain, FoldedTooLong}
use Rattle.np_caseless.proofs.KeyLemmas.{caseless_is}

-- ---- full decompositions

-- a code point has no mapping exactly where it is its own full decomposition
pub final_told : (v : VersionData) (compat : Bool) (c : ℕ) (full : List ℕ) → IsSound v → IsFullDecomposition v compat (c ∷ []) full → bytes_eq full (c ∷ []) ≡ is_final v compat c
final_told v compat c full sound is =
    elim (cases_Bool (is_final v compat c)) [
      | inl final ↦
          (bytes_eq-Decides full (c ∷ [])).1 (full_of-only v compat sound.shallow c full is ∙ full_of-final v compat sound.shallow c final) ∙ sym final
      | inr mapped ↦
          elim (cases_Bool (bytes_eq full (c ∷ []))) [
            | inl same ↦
                let alone = ap (list_all (is_final v compat)) (sym ((bytes_eq-Decides full (c ∷ [])).0 same)) ∙ is.final in
                absurd (both_ways (is_final v compat c) mapped (and_parts (is_final v compat c) true alone).0)
            | inr other ↦ other ∙ sym mapped
          ]
    ]

pub final_known : (v : VersionData) (compat : Bool) (c : ℕ) → IsSound v → bytes_eq (full_of v compat c) (c ∷ []) ≡ is_final v compat c
final_known v compat c sound =
    final_told v compat c (full_of v compat c) sound
    (subst (IsFullDecomposition v compat (c ∷ [])) (append-nil (full_of v compat c)) (IsFullDecomposition-flat_map v compat sound.shallow (c ∷ [])))

-- ---- condition 3

module _ (v : FoldedVersion) (sound : IsSound v.version) (compat : Bool) (c : ℕ) where
  abbrev decomposed_folding : List ℕ
  decomposed_folding = flat_map (full_of v.version compat) (folding_at v.foldings c)

  pub not_by : is_final v.version compat c ≡ false → IsTrue false ↔ IsFoldedAgainBy v compat c
  not_by mapped = (λ h. absurd (both_ways false refl h), λ h. absurd (both_ways (is_final v.version compat c) mapped h.final))

  pub again_by : (are : Bool) → is_quiet v.foldings c ≡ false → is_final v.version compat c ≡ true → are ≡ list_all (is_quiet v.foldings) decomposed_folding
      → IsTrue (not are) ↔ IsFoldedAgainBy v compat c
  again_by true folds final e = (
    λ h. absurd (both_ways false refl h),
    λ h.
        let same = full_decomposition-flat_map v.version compat sound.shallow (folding_at v.foldings c) h.full h.decomposes in
        absurd (both_ways (list_all (is_quiet v.foldings) h.full) h.again (ap (list_all (is_quiet v.foldings)) same ∙ sym e)),
  )
  again_by false folds final e = (
    λ h.
        record {
          folds = folds;
          final = final;
          full = decomposed_folding;
          decomposes = IsFullDecomposition-flat_map v.version compat sound.shallow (folding_at v.foldings c);
          again = sym e;
        },
    λ h. refl,
  )

pub again_either : (v : FoldedVersion) (c : ℕ) (again : Bool) → (IsTrue false ↔ IsFoldedAgainBy v false c) → (IsTrue again ↔ IsFoldedAgainBy v true c) → IsTrue again ↔ IsFoldedAgain v c
again_either v c again canonical compatible = (
  λ h. inr (compatible.0 h),
  λ h. elim h [ inl by ↦ absurd (both_ways false refl (canonical.1 by)) | inr by ↦ compatible.1 by ],
)

-- ---- condition 4

pub long_told : (v : FoldedVersion) (c n : ℕ) (list : List ℕ) (t : Bool) → IsSound v.version → IsCaseless v Nfkd (c ∷ []) list → n ≡ length list → (IsTrue t ↔ (64 < n)) → IsTrue t ↔ IsFoldedTooLong v c
long_told v c n list t sound is count test = (
  λ h. record { list = list; caseless = is; long = (let lt = test.0 h in omega arith) },
  λ h.
      let same = caseless_is v sound Nfkd (c ∷ []) h.list h.caseless ∙ sym (caseless_is v sound Nfkd (c ∷ []) list is) in
      let lt = h.long in
      test.1 (omega (arith, ap length same, lt, count)),
)

-- ---- where there is no fault

module _ (v : FoldedVersion) (lowercases : List Lowercase) (none : IsFaultless v lowercases) where
  assigned_where : (c : ℕ) → is_quiet v.foldings c ≡ false → is_assigned v.version c ≡ true
  assigned_where c folds =
      elim (cases_Bool (is_assigned v.version c)) [
        | inl holds ↦ holds
        | inr lacks ↦ absurd (none (FoldsUnassigned c) (record { folds = folds; lacks = lacks }))
      ]

  to_assigned_where : (c : ℕ) → is_quiet v.foldings c ≡ false → list_all (is_assigned v.version) (folding_at v.foldings c) ≡ true
  to_assigned_where c folds =
      elim (cases_Bool (list_all (is_assigned v.version) (folding_at v.foldings c))) [
        | inl holds ↦ holds
        | inr lacks ↦ absurd (none (FoldsToUnassigned c) (record { folds = folds; lacks = lacks }))
      ]

  not_again : (compat : Bool) (c : ℕ) → ¬ (IsFoldedAgainBy v compat c)
  not_again false c by = none (FoldsAgain c) (inl by)
  not_again true c by = none (FoldsAgain c) (inr by)

  once_where : (compat : Bool) (c : ℕ) (full : List ℕ) → is_quiet v.foldings c ≡ false → is_final v.version compat c ≡ true
      → IsFullDecomposition v.version compat (folding_at v.foldings c) full → list_all (is_quiet v.foldings) full ≡ true
  once_where compat c full folds final decomposes =
      elim (cases_Bool (list_all (is_quiet v.foldings) full)) [
        | inl holds ↦ holds
        | inr again ↦ absurd (not_again compat c (record { folds = folds; final = final; full = full; decomposes = decomposes; again = again }))
      ]

  short_where : (c : ℕ) (ys : List ℕ) → IsCaseless v Nfkd (c ∷ []) ys → length ys ≤ 64
  short_where c ys is =
      elim (cases_lt 64 (length ys)) [
        | inl lt ↦ absurd (none (FoldedTooLong c) (record { list = ys; caseless = is; long = lt }))
        | inr le ↦ le
      ]

  pub sound_where : IsSound v.version → AreFoldings v.foldings → IsSoundFolding v
  sound_where version foldings =
      record {
        version = version;
        foldings = foldings;
        folds_assigned = assigned_where;
        folds_to_assigned = to_assigned_where;
        folds_once = once_where;
        short = short_where;
      }
