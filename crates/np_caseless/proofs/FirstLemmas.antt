-- The first fault of several code points, and the one that is told.
use Rattle.std.proofs.Common.{◌≡◌, ℕ, ◌+◌, ◌-◌, ◌<◌, ◌≤◌, ◌⊎◌, Bool, true, false, List, length, get_or, Option, Some, None, MatchOption, refl, sym, ap, subst, ◌∙◌, inl, inr, arith}
use Rattle.std.specs.Prelude.{nat_lt}
use Rattle.std.specs.List.{slice_get}
use Rattle.std.specs.Option.{option_map}
use Rattle.std.proofs.lemmas.Bool.{both_ways, cases_lt, cases_order, cond-true, cond-false, ltb-true, ltb-false}
use Rattle.std.proofs.lemmas.Grind.{get_or_default_zero}
use Rattle.np_code_points.specs.Hangul.{is_syllable}
use Rattle.np_code_points.proofs.HangulLemmas.{among_bounds}
use Rattle.np_foldings.specs.Foldings.{Folding}
use Rattle.np_foldings.specs.declared.lowercases.Lowercase.{Lowercase}
use Rattle.np_versions.specs.inside.FirstFaults.{IsFirst, IsLeastOf}
use Rattle.np_caseless.specs.ConditionFaults.{HasFault, IsFaultless, IsLeastFault, number_of, place_of}
use Rattle.np_caseless.specs.Faults.{IsFoldedTooLong, IsNotFolded}
use Rattle.np_caseless.specs.Folded.{FoldedVersion, is_quiet}
use Rattle.np_caseless.specs.declared.faults.ConditionFault.{ConditionFault}
use Rattle.np_caseless.specs.declared.faults.ConditionFault.TheVariants.{FoldsUnassigned, FoldsToUnassigned, FoldsAgain, FoldedTooLong, NotFolded, Memory}
use Rattle.np_caseless.proofs.FineLemmas.{quiet_well}
use Rattle.np_caseless.specs.inside.FirstFaults.{Below, FoldsWell, IsFaultAt, IsFine, IsFirstFault, IsFirstOf, IsFoldingAt, IsQuietCodeAt, IsQuietHere, IsSyllableAt, sooner}

-- ---- places

pub below_none : (At : ℕ → ℕ → Type 0) (c : ℕ) → ¬ (Below At 0 c)
below_none At c h = let lt = h.1 in omega arith

pub below_next : (At : ℕ → ℕ → Type 0) (i c : ℕ) → Below At (i + 1) c → Below At i c ⊎ At i c
below_next At i c h =
    elim (cases_lt h.0 i) [
      | inl lt ↦ inl (h.0, lt, h.2)
      | inr le ↦ let lt = h.1 in let same : h.0 ≡ i = omega arith in inr (subst (λ k. At k c) same h.2)
    ]

pub below_here : (At : ℕ → ℕ → Type 0) (i c : ℕ) → At i c → Below At (i + 1) c
below_here At i c h = (i, omega arith, h)

pub below_more : (At : ℕ → ℕ → Type 0) (i c : ℕ) → Below At i c → Below At (i + 1) c
below_more At i c h = (h.0, (let lt = h.1 in omega arith), h.2)

pub syllable_place : (c : ℕ) → is_syllable c ≡ true → Below IsSyllableAt 11172 c
syllable_place c h = let b = among_bounds 0xAC00 11172 c h in (c - 0xAC00, omega arith, omega arith)

module _ (v : FoldedVersion) where
  -- ---- the first fault of code points

  pub at_place : (c : ℕ) (f : ConditionFault) → IsFaultAt v c f → place_of f ≡ c
  at_place c (FoldsUnassigned code) h = h.0
  at_place c (FoldsToUnassigned code) h = h.0
  at_place c (FoldsAgain code) h = h.0
  at_place c (FoldedTooLong code) h = h.0
  at_place c (NotFolded code) h = absurd h
  at_place c Memory h = absurd h

  -- of one code point
  pub of_one : (c : ℕ) (o : Option ConditionFault) → MatchOption o (IsFine v c) (IsFaultAt v c) → IsFirstOf v (λ d. d ≡ c) o
  of_one c None h = λ d e. subst (IsFine v) (sym e) h
  of_one c (Some f) h =
      let same = at_place c f h in
      record { at = subst (λ x. IsFaultAt v x f) (sym same) h; before = λ d e lt. absurd (omega (arith, e, same, lt)) }

  -- of fewer
  pub of_fewer : (S T : ℕ → Type 0) (o : Option ConditionFault) → ((c : ℕ) → T c → S c) → IsFirstOf v S o → IsFirstOf v T o
  of_fewer S T None sub h = λ c t. h c (sub c t)
  of_fewer S T (Some f) sub h = record { at = h.at; before = λ c t lt. h.before c (sub c t) lt }

  -- of all, where the others have none
  pub of_all : (S T : ℕ → Type 0) (o : Option ConditionFault) → ((c : ℕ) → S c ⊎ IsFine v c) → IsFirstOf v S o → IsFirstOf v T o
  of_all S T None either h = λ c t. elim (either c) [ inl s ↦ h c s | inr fine ↦ fine ]
  of_all S T (Some f) either h = record { at = h.at; before = λ c t lt. elim (either c) [ inl s ↦ h.before c s lt | inr fine ↦ fine ] }

  -- of both
  sooner_of_two : (S T U : ℕ → Type 0) (f g : ConditionFault) (t : Bool) → nat_lt (place_of g) (place_of f) ≡ t → ((c : ℕ) → U c → S c ⊎ T c)
      → IsFirstFault v S f → IsFirstFault v T g → IsFirstOf v U (sooner (Some f) (Some g))
  sooner_of_two S T U f g true e sub h k =
      let lt : place_of g < place_of f = ltb-true (place_of g) (place_of f) e in
      subst (IsFirstOf v U) (sym (cond-true (nat_lt (place_of g) (place_of f)) (Some g) (Some f) e))
      (record { at = k.at; before = λ c u less. elim (sub c u) [ inl s ↦ h.before c s (omega arith) | inr t ↦ k.before c t less ] })
  sooner_of_two S T U f g false e sub h k =
      let le : place_of f ≤ place_of g = ltb-false (place_of g) (place_of f) e in
      subst (IsFirstOf v U) (sym (cond-false (nat_lt (place_of g) (place_of f)) (Some g) (Some f) e))
      (record { at = h.at; before = λ c u less. elim (sub c u) [ inl s ↦ h.before c s less | inr t ↦ k.before c t (omega arith) ] })

  pub of_both : (S T U : ℕ → Type 0) (o p : Option ConditionFault) → ((c : ℕ) → U c → S c ⊎ T c) → IsFirstOf v S o → IsFirstOf v T p → IsFirstOf v U (sooner o p)
  of_both S T U None None sub h k = λ c u. elim (sub c u) [ inl s ↦ h c s | inr t ↦ k c t ]
  of_both S T U None (Some g) sub h k =
      record { at = k.at; before = λ c u lt. elim (sub c u) [ inl s ↦ h c s | inr t ↦ k.before c t lt ] }
  of_both S T U (Some f) None sub h k =
      record { at = h.at; before = λ c u lt. elim (sub c u) [ inl s ↦ h.before c s lt | inr t ↦ k c t ] }
  of_both S T U (Some f) (Some g) sub h k = sooner_of_two S T U f g (nat_lt (place_of g) (place_of f)) refl sub h k

  -- of the first places, and of one more
  pub none_yet : (At : ℕ → ℕ → Type 0) → IsFirstOf v (Below At 0) None
  none_yet At = λ c h. absurd (below_none At c h)

  pub one_more : (At : ℕ → ℕ → Type 0) (i : ℕ) (o p : Option ConditionFault) → IsFirstOf v (Below At i) o → IsFirstOf v (At i) p → IsFirstOf v (Below At (i + 1)) (sooner o p)
  one_more At i o p h k = of_both (Below At i) (At i) (Below At (i + 1)) o p (below_next At i) h k

  -- at a place of the foldings and of the code points that have a mapping
  same_some : (c d : ℕ) → Some c ≡ Some d → d ≡ c
  same_some c d e = cc

  pub of_folding : (k : ℕ) (f : Folding) (o : Option ConditionFault) → slice_get v.foldings k ≡ Some f → IsFirstOf v (λ d. d ≡ f.code) o → IsFirstOf v (IsFoldingAt v.foldings k) o
  of_folding k f o at h =
      of_fewer (λ d. d ≡ f.code) (IsFoldingAt v.foldings k) o
      (λ c is. same_some f.code c (sym (ap (option_map (λ (x : Folding). x.code)) at) ∙ is)) h

  pub of_no_folding : (k : ℕ) → slice_get v.foldings k ≡ None → IsFirstOf v (IsFoldingAt v.foldings k) None
  of_no_folding k none = λ c is. absurd (let e = ap (option_map (λ (x : Folding). x.code)) none in cc)

  pub of_quiet_code : (codes : List ℕ) (k x : ℕ) (o : Option ConditionFault) → k < length codes → x ≡ get_or codes k x
      → IsFirstOf v (IsQuietHere v.foldings x) o
      → IsFirstOf v (IsQuietCodeAt v codes k) o
  of_quiet_code codes k x o lt here h =
      of_fewer (IsQuietHere v.foldings x) (IsQuietCodeAt v codes k) o (λ c is. (sym is.0 ∙ sym (here ∙ get_or_default_zero codes k x lt), is.1)) h

  -- of a code point, where it folds to itself alone
  pub first_folding : (c : ℕ) → is_quiet v.foldings c ≡ false → IsFirstOf v (IsQuietHere v.foldings c) None
  first_folding c folds = λ d here. absurd (both_ways (is_quiet v.foldings c) folds (subst (λ e. is_quiet v.foldings e ≡ true) here.0 here.1))

  pub first_long : (c code : ℕ) → code ≡ c → is_quiet v.foldings c ≡ true → IsFoldedTooLong v c
      → IsFirstOf v (IsQuietHere v.foldings c) (Some (FoldedTooLong code))
  first_long c code is quiet long =
      record {
        at = (refl, subst (IsFoldedTooLong v) (sym is) long, subst (FoldsWell v) (sym is) (quiet_well v c quiet));
        before = λ d here lt. absurd (omega (arith, here.0, is, lt));
      }

  pub first_short : (c : ℕ) → is_quiet v.foldings c ≡ true → ¬ (IsFoldedTooLong v c) → IsFirstOf v (IsQuietHere v.foldings c) None
  first_short c quiet short = λ d here. subst (IsFine v) (sym here.0) (record { folds = quiet_well v c quiet; short = short })

  pub first_fine : (c : ℕ) → (is_quiet v.foldings c ≡ true → IsFine v c) → IsFirstOf v (IsQuietHere v.foldings c) None
  first_fine c fine = λ d here. subst (IsFine v) (sym here.0) (fine (subst (λ e. is_quiet v.foldings e ≡ true) here.0 here.1))

  -- of three, where the others have none
  among_three : (S T U : ℕ → Type 0) (c : ℕ) → S c ⊎ (T c ⊎ U c) → (S c ⊎ T c) ⊎ U c
  among_three S T U c (inl s) = inl (inl s)
  among_three S T U c (inr (inl t)) = inl (inr t)
  among_three S T U c (inr (inr u)) = inr u

  pub of_three : (S T U : ℕ → Type 0) (o p q : Option ConditionFault) → ((c : ℕ) → (S c ⊎ (T c ⊎ U c)) ⊎ IsFine v c) → IsFirstOf v S o → IsFirstOf v T p → IsFirstOf v U q
      → IsFirstOf v (λ _. Unit {0}) (sooner (sooner o p) q)
  of_three S T U o p q either h k l =
      of_all (λ c. S c ⊎ (T c ⊎ U c)) (λ _. Unit {0}) (sooner (sooner o p) q) either
      (of_both (λ c. S c ⊎ T c) U (λ c. S c ⊎ (T c ⊎ U c)) (sooner o p) q (among_three S T U) (of_both S T (λ c. S c ⊎ T c) o p (λ c both. both) h k) l)

  -- ---- the one that is told

  module _ (lowercases : List Lowercase) where
    has : (c : ℕ) (f : ConditionFault) → IsFaultAt v c f → HasFault v lowercases f
    has c (FoldsUnassigned code) h = subst (λ d. HasFault v lowercases (FoldsUnassigned d)) (sym h.0) h.1
    has c (FoldsToUnassigned code) h = subst (λ d. HasFault v lowercases (FoldsToUnassigned d)) (sym h.0) h.1
    has c (FoldsAgain code) h = subst (λ d. HasFault v lowercases (FoldsAgain d)) (sym h.0) h.1
    has c (FoldedTooLong code) h = subst (λ d. HasFault v lowercases (FoldedTooLong d)) (sym h.0) h.1
    has c (NotFolded code) h = absurd h
    has c Memory h = absurd h

    -- where a code point has no other fault it is a lowercase's
    lowercase_alone : (g : ConditionFault) → IsFine v (place_of g) → HasFault v lowercases g → (code : ℕ) × (g ≡ NotFolded code)
    lowercase_alone (FoldsUnassigned code) fine h = absurd (fine.folds.assigned h)
    lowercase_alone (FoldsToUnassigned code) fine h = absurd (fine.folds.to_assigned h)
    lowercase_alone (FoldsAgain code) fine h = absurd (fine.folds.once h)
    lowercase_alone (FoldedTooLong code) fine h = absurd (fine.short h)
    lowercase_alone (NotFolded code) fine h = (code, refl)
    lowercase_alone Memory fine h = absurd h

    -- no fault of a code point has a smaller number
    least_two : (g : ConditionFault) → ¬ (HasFault v lowercases (FoldsUnassigned (place_of g))) → HasFault v lowercases g → 2 ≤ number_of g
    least_two (FoldsUnassigned code) none h = absurd (none h)
    least_two (FoldsToUnassigned code) none h = omega arith
    least_two (FoldsAgain code) none h = omega arith
    least_two (FoldedTooLong code) none h = omega arith
    least_two (NotFolded code) none h = omega arith
    least_two Memory none h = absurd h

    least_three : (g : ConditionFault) → ¬ (HasFault v lowercases (FoldsUnassigned (place_of g))) → ¬ (HasFault v lowercases (FoldsToUnassigned (place_of g)))
        → HasFault v lowercases g → 3 ≤ number_of g
    least_three (FoldsUnassigned code) one two h = absurd (one h)
    least_three (FoldsToUnassigned code) one two h = absurd (two h)
    least_three (FoldsAgain code) one two h = omega arith
    least_three (FoldedTooLong code) one two h = omega arith
    least_three (NotFolded code) one two h = omega arith
    least_three Memory one two h = absurd h

    least_four : (g : ConditionFault) → FoldsWell v (place_of g) → HasFault v lowercases g → 4 ≤ number_of g
    least_four (FoldsUnassigned code) well h = absurd (well.assigned h)
    least_four (FoldsToUnassigned code) well h = absurd (well.to_assigned h)
    least_four (FoldsAgain code) well h = absurd (well.once h)
    least_four (FoldedTooLong code) well h = omega arith
    least_four (NotFolded code) well h = omega arith
    least_four Memory well h = absurd h

    some_number : (g : ConditionFault) → 1 ≤ number_of g
    some_number (FoldsUnassigned code) = omega arith
    some_number (FoldsToUnassigned code) = omega arith
    some_number (FoldsAgain code) = omega arith
    some_number (FoldedTooLong code) = omega arith
    some_number (NotFolded code) = omega arith
    some_number Memory = omega arith

    least_there : (c : ℕ) (f g : ConditionFault) → IsFaultAt v c f → place_of g ≡ c → HasFault v lowercases g → number_of f ≤ number_of g
    least_there c (FoldsUnassigned code) g h at has_g = some_number g
    least_there c (FoldsToUnassigned code) g h at has_g = least_two g (subst (λ d. ¬ (HasFault v lowercases (FoldsUnassigned d))) (sym at) h.2) has_g
    least_there c (FoldsAgain code) g h at has_g =
        least_three g (subst (λ d. ¬ (HasFault v lowercases (FoldsUnassigned d))) (sym at) h.2)
        (subst (λ d. ¬ (HasFault v lowercases (FoldsToUnassigned d))) (sym at) h.3) has_g
    least_there c (FoldedTooLong code) g h at has_g = least_four g (subst (FoldsWell v) (sym at) h.2) has_g
    least_there c (NotFolded code) g h at has_g = absurd h
    least_there c Memory g h at has_g = absurd h

    -- a fault of foldings is told where no lowercase's stands at a smaller code point
    told_folding : (f : ConditionFault) → IsFirstFault v (λ _. Unit {0}) f → ((code : ℕ) → IsNotFolded v lowercases code → place_of f ≤ code) → IsLeastFault v lowercases f
    told_folding f first none =
        record {
          holds = has (place_of f) f first.at;
          least = λ g has_g.
              elim (cases_order (place_of f) (place_of g)) [
                | inl same ↦ inr (same, least_there (place_of f) f g first.at (sym same) has_g)
                | inr (inl lt) ↦ inl lt
                | inr (inr lt) ↦
                    let lowers = lowercase_alone g (first.before (place_of g) tt lt) has_g in
                    let le = none lowers.0 (subst (HasFault v lowercases) lowers.1 has_g) in
                    absurd (omega (arith, le, ap place_of lowers.1, lt))
              ];
        }

    -- a lowercase's is told where no other stands at it or before
    told_lowercase : (code : ℕ) → IsLeastOf (IsNotFolded v lowercases) code → ((c : ℕ) → c ≤ code → IsFine v c) → IsLeastFault v lowercases (NotFolded code)
    told_lowercase code first fine =
        record {
          holds = first.holds;
          least = λ g has_g.
              elim (cases_lt code (place_of g)) [
                | inl lt ↦ inl lt
                | inr le ↦
                    let lowers = lowercase_alone g (fine (place_of g) le) has_g in
                    let least = first.least lowers.0 (subst (HasFault v lowercases) lowers.1 has_g) in
                    inr (omega (arith, ap place_of lowers.1, least, le), omega (arith, ap number_of lowers.1))
              ];
        }

    told_two : (f : ConditionFault) (code : ℕ) (t : Bool) → nat_lt code (place_of f) ≡ t → IsFirstFault v (λ _. Unit {0}) f → IsLeastOf (IsNotFolded v lowercases) code
        → MatchOption (sooner (Some f) (Some (NotFolded code))) (IsFaultless v lowercases) (IsLeastFault v lowercases)
    told_two f code true e first not_folded =
        let lt : code < place_of f = ltb-true code (place_of f) e in
        subst (λ o. MatchOption o (IsFaultless v lowercases) (IsLeastFault v lowercases))
        (sym (cond-true (nat_lt code (place_of f)) (Some (NotFolded code)) (Some f) e))
        (told_lowercase code not_folded (λ c le. first.before c tt (omega arith)))
    told_two f code false e first not_folded =
        let le : place_of f ≤ code = ltb-false code (place_of f) e in
        subst (λ o. MatchOption o (IsFaultless v lowercases) (IsLeastFault v lowercases))
        (sym (cond-false (nat_lt code (place_of f)) (Some (NotFolded code)) (Some f) e))
        (told_folding f first (λ d h. let least = not_folded.least d h in omega arith))

    pub told : (o : Option ConditionFault) (n : Option ℕ) → IsFirstOf v (λ _. Unit {0}) o → IsFirst (IsNotFolded v lowercases) n
        → MatchOption (sooner o (option_map NotFolded n)) (IsFaultless v lowercases) (IsLeastFault v lowercases)
    told None None fine none = λ g has_g.
        let lowers = lowercase_alone g (fine (place_of g) tt) has_g in none lowers.0 (subst (HasFault v lowercases) lowers.1 has_g)
    told None (Some code) fine first = told_lowercase code first (λ c le. fine c tt)
    told (Some f) None first none = told_folding f first (λ code h. absurd (none code h))
    told (Some f) (Some code) first not_folded = told_two f code (nat_lt code (place_of f)) refl first not_folded
