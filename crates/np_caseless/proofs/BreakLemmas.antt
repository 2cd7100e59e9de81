-- The break of one code point.
use Rattle.std.proofs.Common.{◌≡◌, ◌≢◌, ℕ, ◌≤◌, ◌&&◌, true, false, not, refl, sym, ap, ◌∙◌, inl, inr, arith}
use Rattle.std.specs.Prelude.{bytes_eq}
use Rattle.std.proofs.lemmas.Bool.{and_from, and_parts, both_ways, cases_Bool, not-true}
use Rattle.std.proofs.lemmas.Slice.Eq.{bytes_eq-Decides}
use Rattle.np_chain.specs.Breaks as version
use Rattle.np_chain.specs.declared.breaks.BreakKind.{BreakKind}
use Rattle.np_chain.specs.declared.breaks.BreakKind.TheVariants.{Lost, ClassChanged, MappingChanged, NowExcluded, NowIncluded, NewComposite}
use Rattle.np_chain.proofs.KindLemmas.{break_of-some}
use Rattle.np_versions.specs.Versions.{is_assigned}
use Rattle.np_caseless.specs.Breaks.{HasBreak, IsBreakOf, number_of}
use Rattle.np_caseless.specs.Folded.{FoldedVersion, folding_at}
use Rattle.np_caseless.specs.declared.breaks.FoldedBreakKind.{FoldedBreakKind}
use Rattle.np_caseless.specs.declared.breaks.FoldedBreakKind.TheVariants.{OfVersion, FoldingChanged}
use Rattle.np_caseless.specs.inside.FoldingChanges.{changes_folding}

at_most_six : (kind : BreakKind) → version.number_of kind ≤ 6
at_most_six Lost = omega arith
at_most_six ClassChanged = omega arith
at_most_six MappingChanged = omega arith
at_most_six NowExcluded = omega arith
at_most_six NowIncluded = omega arith
at_most_six NewComposite = omega arith

module _ (old new : FoldedVersion) (c : ℕ) where
  abbrev OfVersions : BreakKind → Type 0
  OfVersions kind = version.IsBreakOf old.version new.version c kind

  abbrev HasNone : Type 0
  HasNone = (kind : BreakKind) → ¬ (version.HasBreak old.version new.version c kind)

  -- ---- a break of the version

  least_version : (kind : BreakKind) → OfVersions kind → (other : FoldedBreakKind) → HasBreak old new c other → number_of (OfVersion kind) ≤ number_of other
  least_version kind is (OfVersion other) h = is.least other h
  least_version kind is FoldingChanged h = let most = at_most_six kind in omega arith

  pub of_version : (kind : BreakKind) → OfVersions kind → IsBreakOf old new c (OfVersion kind)
  of_version kind is = record { has = is.has; least = least_version kind is }

  to_version : (kind : BreakKind) → IsBreakOf old new c (OfVersion kind) → OfVersions kind
  to_version kind is = record { has = is.has; least = λ other h. is.least (OfVersion other) h }

  -- ---- that of the folding

  pub changed_is : changes_folding old new c ≡ true → HasBreak old new c FoldingChanged
  unfolding changes_folding
  changed_is h =
      let halves = and_parts (is_assigned old.version c && is_assigned new.version c) (not (bytes_eq (folding_at new.foldings c) (folding_at old.foldings c))) h in
      let both = and_parts (is_assigned old.version c) (is_assigned new.version c) halves.0 in
      let other = not-true (bytes_eq (folding_at new.foldings c) (folding_at old.foldings c)) halves.1 in (
        record { in_old = both.0; in_new = both.1 },
        λ e. both_ways _ other ((bytes_eq-Decides (folding_at new.foldings c) (folding_at old.foldings c)).1 e),
      )

  unlike : folding_at new.foldings c ≢ folding_at old.foldings c → bytes_eq (folding_at new.foldings c) (folding_at old.foldings c) ≡ false
  unlike other =
      elim (cases_Bool (bytes_eq (folding_at new.foldings c) (folding_at old.foldings c))) [
        | inl same ↦ absurd (other ((bytes_eq-Decides (folding_at new.foldings c) (folding_at old.foldings c)).0 same))
        | inr differ ↦ differ
      ]

  pub changed_from : HasBreak old new c FoldingChanged → changes_folding old new c ≡ true
  unfolding changes_folding
  changed_from h = and_from _ _ (and_from _ _ h.0.in_old h.0.in_new) (ap not (unlike h.1))

  least_folding : HasNone → (other : FoldedBreakKind) → HasBreak old new c other → 7 ≤ number_of other
  least_folding none (OfVersion other) h = absurd (none other h)
  least_folding none FoldingChanged h = omega arith

  pub of_folding : HasNone → changes_folding old new c ≡ true → IsBreakOf old new c FoldingChanged
  of_folding none h = record { has = changed_is h; least = least_folding none }

  pub no_break : HasNone → changes_folding old new c ≡ false → (kind : FoldedBreakKind) → ¬ (HasBreak old new c kind)
  no_break none stays (OfVersion kind) h = none kind h
  no_break none stays FoldingChanged h = both_ways (changes_folding old new c) stays (changed_from h)

  -- ---- a code point has one break at most

  same_version : (kind other : BreakKind) → OfVersions kind → OfVersions other → OfVersion kind ≡ OfVersion other
  same_version kind other one two =
      let e = sym (break_of-some old.version new.version c kind one) ∙ break_of-some old.version new.version c other two in cc

  pub one_break : (kind other : FoldedBreakKind) → IsBreakOf old new c kind → IsBreakOf old new c other → kind ≡ other
  one_break (OfVersion kind) (OfVersion other) one two = same_version kind other (to_version kind one) (to_version other two)
  one_break (OfVersion kind) FoldingChanged one two = let le = two.least (OfVersion kind) one.has in let most = at_most_six kind in absurd (omega arith)
  one_break FoldingChanged (OfVersion other) one two = let le = one.least (OfVersion other) two.has in let most = at_most_six other in absurd (omega arith)
  one_break FoldingChanged FoldingChanged one two = refl
