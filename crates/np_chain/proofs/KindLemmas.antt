-- The test of a break and its meaning.
use Rattle.std.proofs.Common.{◌≡◌, ℕ, ◌+◌, ◌<◌, ◌≤◌, Bool, true, false, not, ◌&&◌, ◌==◌, Option, Some, None, if◌then◌else◌, refl, sym, ap, subst, ◌∙◌, arith, inl, inr}
use Rattle.std.proofs.lemmas.Bool.{and_parts, and_from, both_ways, cases_eq, cases_lt, eqb-false, ne_eqb, false_from_ne_true}
use Rattle.np_chain.specs.Breaks.{number_of, IsInBoth, ComposesOld, HasBreak, IsBreakOf}
use Rattle.np_chain.specs.inside.BreakTests.{is_lost, is_assigned_in_both, changes_class, changes_mapping, becomes_excluded, has_old_parts, becomes_included, is_new_composite, break_of}
use Rattle.np_chain.specs.declared.breaks.BreakKind.{BreakKind}
use Rattle.np_chain.specs.declared.breaks.BreakKind.TheVariants.{Lost, ClassChanged, MappingChanged, NowExcluded, NowIncluded, NewComposite}
use Rattle.np_chain.proofs.BreakLemmas.{alike-same, alike_from}
use Rattle.np_versions.proofs.CompositeLemmas.{primary-from, primary-test}
use Rattle.np_versions.specs.inside.Primaries.{is_primary}
use Rattle.np_versions.specs.Composites.{IsPrimary}
use Rattle.np_versions.specs.Versions.{VersionData, is_assigned}

not_so : (b : Bool) → not b ≡ true → b ≡ false
not_so true h = cc
not_so false h = refl

not_from : (b : Bool) → b ≡ false → not b ≡ true
not_from b h = ap not h

-- ---- the least of six kinds

kind_at : ℕ → BreakKind
kind_at n =
    if n == 1 then Lost
    else if n == 2 then ClassChanged
    else if n == 3 then MappingChanged
    else if n == 4 then NowExcluded
    else if n == 5 then NowIncluded
    else NewComposite

number_back : (kind : BreakKind) → kind_at (number_of kind) ≡ kind
unfolding kind_at
number_back Lost = refl
number_back ClassChanged = refl
number_back MappingChanged = refl
number_back NowExcluded = refl
number_back NowIncluded = refl
number_back NewComposite = refl

same_number : (j k : BreakKind) → number_of j ≡ number_of k → j ≡ k
same_number j k h = sym (number_back j) ∙ ap kind_at h ∙ number_back k

in_six : (kind : BreakKind) → (1 ≤ number_of kind) × (number_of kind ≤ 6)
in_six Lost = (omega arith, omega arith)
in_six ClassChanged = (omega arith, omega arith)
in_six MappingChanged = (omega arith, omega arith)
in_six NowExcluded = (omega arith, omega arith)
in_six NowIncluded = (omega arith, omega arith)
in_six NewComposite = (omega arith, omega arith)

same_kind : {j k : BreakKind} → Some j ≡ Some k → j ≡ k
same_kind h = cc

-- a kind where its test passes, or what the tests behind it give
or_else : Bool → BreakKind → Option BreakKind → Option BreakKind
or_else passes kind rest = if passes then Some kind else rest

module _ (test : BreakKind → Bool) where
  -- the first of six tests that passes
  first_kind : Option BreakKind
  first_kind =
      or_else (test Lost) Lost
      (or_else (test ClassChanged) ClassChanged
      (or_else (test MappingChanged) MappingChanged
      (or_else (test NowExcluded) NowExcluded
      (or_else (test NowIncluded) NowIncluded
      (or_else (test NewComposite) NewComposite None)))))

  record IsLeastKind (kind : BreakKind) : Type 0 where
    has : test kind ≡ true
    least : (other : BreakKind) → test other ≡ true → number_of kind ≤ number_of other

  -- none of the kinds before n passes
  abbrev FailsBelow : ℕ → Type 0
  FailsBelow n = (kind : BreakKind) → number_of kind < n → test kind ≡ false

  fails_none : FailsBelow 1
  fails_none kind lt = let low = in_six kind in absurd (omega arith)

  fails_next : (kind : BreakKind) → FailsBelow (number_of kind) → test kind ≡ false → FailsBelow (number_of kind + 1)
  fails_next kind below fails other lt =
      elim (cases_eq (number_of other) (number_of kind)) [
        | inl same ↦ ap test (same_number other kind same) ∙ fails
        | inr less ↦ below other (omega arith)
      ]

  least_at : (kind found : BreakKind) → FailsBelow (number_of kind) → test kind ≡ true → Some kind ≡ Some found → IsLeastKind found
  least_at kind found below passes same =
      subst IsLeastKind (same_kind same)
      (record {
        has = passes;
        least = λ other h.
            elim (cases_lt (number_of other) (number_of kind)) [ inl lt ↦ absurd (both_ways _ (below other lt) h) | inr le ↦ le ];
      })

  some_step : (kind found : BreakKind) (t : Bool) (rest : Option BreakKind) → FailsBelow (number_of kind) → test kind ≡ t → or_else t kind rest ≡ Some found → (FailsBelow (number_of kind + 1) → rest ≡ Some found → IsLeastKind found) → IsLeastKind found
  unfolding or_else
  some_step kind found true rest below is h later = least_at kind found below is h
  some_step kind found false rest below is h later = later (fails_next kind below is) h

  some_at : (kind found : BreakKind) (rest : Option BreakKind) → FailsBelow (number_of kind) → or_else (test kind) kind rest ≡ Some found → (FailsBelow (number_of kind + 1) → rest ≡ Some found → IsLeastKind found) → IsLeastKind found
  some_at kind found rest below h later = some_step kind found (test kind) rest below refl h later

  first-some : (found : BreakKind) → first_kind ≡ Some found → IsLeastKind found
  unfolding first_kind
  first-some found h =
      some_at Lost found _ fails_none h
      (λ past_lost h2. some_at ClassChanged found _ past_lost h2
      (λ past_class h3. some_at MappingChanged found _ past_class h3
      (λ past_mapping h4. some_at NowExcluded found _ past_mapping h4
      (λ past_excluded h5. some_at NowIncluded found _ past_excluded h5
      (λ past_included h6. some_at NewComposite found None past_included h6 (λ past_all none. absurd (cc)))))))

  none_step : (kind : BreakKind) (t : Bool) (rest : Option BreakKind) → FailsBelow (number_of kind) → test kind ≡ t → or_else t kind rest ≡ None → FailsBelow (number_of kind + 1) × (rest ≡ None)
  unfolding or_else
  none_step kind true rest below is h = absurd (cc)
  none_step kind false rest below is h = (fails_next kind below is, h)

  none_at : (kind : BreakKind) (rest : Option BreakKind) → FailsBelow (number_of kind) → or_else (test kind) kind rest ≡ None → FailsBelow (number_of kind + 1) × (rest ≡ None)
  none_at kind rest below h = none_step kind (test kind) rest below refl h

  first-none : first_kind ≡ None → (kind : BreakKind) → test kind ≡ false
  unfolding first_kind
  first-none h kind =
      let past_lost = none_at Lost _ fails_none h in
      let past_class = none_at ClassChanged _ past_lost.0 past_lost.1 in
      let past_mapping = none_at MappingChanged _ past_class.0 past_class.1 in
      let past_excluded = none_at NowExcluded _ past_mapping.0 past_mapping.1 in
      let past_included = none_at NowIncluded _ past_excluded.0 past_excluded.1 in
      let past_all = none_at NewComposite None past_included.0 past_included.1 in
      let high = in_six kind in
      past_all.0 kind (omega arith)

-- ---- each test and its meaning

module _ (old new : VersionData) (c : ℕ) where
  test_of : BreakKind → Bool
  test_of Lost = is_lost old new c
  test_of ClassChanged = changes_class old new c
  test_of MappingChanged = changes_mapping old new c
  test_of NowExcluded = becomes_excluded old new c
  test_of NowIncluded = becomes_included old new c
  test_of NewComposite = is_new_composite old new c

  in_both : is_assigned_in_both old new c ≡ true → IsInBoth old new c
  in_both h = let halves = and_parts (is_assigned old c) (is_assigned new c) h in record { in_old = halves.0; in_new = halves.1 }

  in_both-test : IsInBoth old new c → is_assigned_in_both old new c ≡ true
  in_both-test h = and_from _ _ h.in_old h.in_new

  not_primary : (v : VersionData) → is_primary v c ≡ false → ¬ IsPrimary v c
  not_primary v h is = both_ways _ h (primary-test v c is)

  not_primary-test : (v : VersionData) → (¬ IsPrimary v c) → is_primary v c ≡ false
  not_primary-test v h = false_from_ne_true _ (λ is. h (primary-from v c is))

  composes : is_primary new c ≡ true → has_old_parts old new c ≡ true → ComposesOld old new c
  unfolding has_old_parts
  composes p h = record { primary = primary-from new c p; parts = h }

  composes-parts : ComposesOld old new c → has_old_parts old new c ≡ true
  unfolding has_old_parts
  composes-parts h = h.parts

  has : (kind : BreakKind) → test_of kind ≡ true → HasBreak old new c kind
  unfolding test_of is_lost changes_class changes_mapping becomes_excluded becomes_included is_new_composite
  has Lost h = let halves = and_parts (is_assigned old c) _ h in (halves.0, not_so _ halves.1)
  has ClassChanged h =
      let halves = and_parts (is_assigned_in_both old new c) _ h in (in_both halves.0, eqb-false _ _ (not_so _ halves.1))
  has MappingChanged h =
      let halves = and_parts (is_assigned_in_both old new c) _ h in
      (in_both halves.0, λ alike. both_ways _ (not_so _ halves.1) (alike_from old new c alike.kind alike.mapping))
  has NowExcluded h = let halves = and_parts (is_primary old c) _ h in (primary-from old c halves.0, not_primary new (not_so _ halves.1))
  has NowIncluded h =
      let three = and_parts (is_assigned old c && is_primary new c && not (is_primary old c)) (has_old_parts old new c) h in
      let two = and_parts (is_assigned old c && is_primary new c) (not (is_primary old c)) three.0 in
      let one = and_parts (is_assigned old c) (is_primary new c) two.0 in
      (one.0, not_primary old (not_so _ two.1), composes one.1 three.1)
  has NewComposite h =
      let two = and_parts (not (is_assigned old c) && is_primary new c) (has_old_parts old new c) h in
      let one = and_parts (not (is_assigned old c)) (is_primary new c) two.0 in
      (not_so _ one.0, composes one.1 two.1)

  passes : (kind : BreakKind) → HasBreak old new c kind → test_of kind ≡ true
  unfolding test_of is_lost changes_class changes_mapping becomes_excluded becomes_included is_new_composite
  passes Lost h = and_from _ _ h.0 (not_from _ h.1)
  passes ClassChanged h = and_from _ _ (in_both-test h.0) (not_from _ (ne_eqb _ _ h.1))
  passes MappingChanged h =
      and_from _ _ (in_both-test h.0)
      (not_from _ (false_from_ne_true _ (λ alike. let same = alike-same old new c alike in h.1 (record { kind = same.0; mapping = same.1 }))))
  passes NowExcluded h = and_from _ _ (primary-test old c h.0) (not_from _ (not_primary-test new h.1))
  passes NowIncluded h =
      and_from _ _ (and_from _ _ (and_from _ _ h.0 (primary-test new c h.2.primary)) (not_from _ (not_primary-test old h.1))) (composes-parts h.2)
  passes NewComposite h = and_from _ _ (and_from _ _ (not_from _ h.0) (primary-test new c h.1.primary)) (composes-parts h.1)

  break_of-first : break_of old new c ≡ first_kind test_of
  unfolding break_of first_kind or_else test_of
  break_of-first = refl

  pub break_of-is : (kind : BreakKind) → break_of old new c ≡ Some kind → IsBreakOf old new c kind
  break_of-is kind h =
      let least = first-some test_of kind (sym break_of-first ∙ h) in
      record { has = has kind least.has; least = λ other k. least.least other (passes other k) }

  pub break_of-none : break_of old new c ≡ None → (kind : BreakKind) → ¬ HasBreak old new c kind
  break_of-none h kind is = both_ways _ (first-none test_of (sym break_of-first ∙ h) kind) (passes kind is)

  go : (kind : BreakKind) → IsBreakOf old new c kind → (o : Option BreakKind) → break_of old new c ≡ o → o ≡ Some kind
  go kind is None e = absurd (break_of-none e kind is.has)
  go kind is (Some found) e =
      let least = break_of-is found e in
      let up = least.least kind is.has in
      let down = is.least found least.has in
      ap Some (same_number found kind (omega arith))

  -- a code point has one break at most
  pub break_of-some : (kind : BreakKind) → IsBreakOf old new c kind → break_of old new c ≡ Some kind
  break_of-some kind is = go kind is (break_of old new c) refl
