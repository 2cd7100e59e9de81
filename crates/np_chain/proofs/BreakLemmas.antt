-- The break of a code point, and what it means that there is none.
use Rattle.std.proofs.Common.{◌≡◌, ◌≢◌, ℕ, ◌≤◌, Bool, true, false, not, ◌&&◌, ◌==◌, Option, Some, None, refl, sym, ap, ◌∙◌, arith, eqb-true, eq-eqb, if◌then◌else◌}
use Rattle.std.proofs.lemmas.Bool.{and_parts, and_from, both_ways, false_from_ne_true, ne_eqb}
use Rattle.std.proofs.lemmas.Slice.Eq.{bytes_eq-Decides}
use Rattle.np_chain.specs.inside.BreakTests.{is_lost, changes_class, is_same_kind, maps_alike, changes_mapping, becomes_excluded, has_old_parts, becomes_included, is_new_composite, break_of}
use Rattle.np_chain.specs.Extension.{Extends}
use Rattle.np_chain.specs.declared.breaks.BreakKind.{BreakKind}
use Rattle.np_chain.specs.declared.breaks.BreakKind.TheVariants.{Lost, ClassChanged, MappingChanged, NowExcluded, NowIncluded, NewComposite}
use Rattle.np_versions.specs.inside.Primaries.{is_primary}
use Rattle.np_versions.specs.Conditions.{IsSound}
use Rattle.np_versions.specs.Versions.{VersionData, is_assigned, class_of, decomposition_kind, decomposition_mapping}
use Rattle.np_versions.proofs.CompositeLemmas.{primary-assigned, primary-from, primary-test}
use Rattle.np_ucd.specs.declared.rows.MapKind.{MapKind}
use Rattle.np_ucd.specs.declared.rows.MapKind.TheVariants.{Plain, Canonical, Compatibility}

-- ---- the least of six kinds, by what is known of a code point

-- a and b: assigned in old and in new; same: the class; alike: kind and mapping; p and q: a primary composite of old and of new; parts: these are assigned in old
abbrev pub kind_by : Bool → Bool → Bool → Bool → Bool → Bool → Bool → Option BreakKind
kind_by a b same alike p q parts =
    if a && not b then Some Lost
    else if a && b && not same then Some ClassChanged
    else if a && b && not alike then Some MappingChanged
    else if p && not q then Some NowExcluded
    else if a && q && not p && parts then Some NowIncluded
    else if not a && q && parts then Some NewComposite
    else None

pub break_of-by : (old new : VersionData) (c : ℕ) → break_of old new c ≡ kind_by (is_assigned old c) (is_assigned new c) (class_of new c == class_of old c) (maps_alike old new c) (is_primary old c) (is_primary new c) (has_old_parts old new c)
unfolding break_of is_lost changes_class changes_mapping becomes_excluded becomes_included is_new_composite
break_of-by old new c = refl

-- what no break says
pub record NoBreak (a b same alike p q parts : Bool) : Type 0 where
  pub stays : a ≡ true → b ≡ true
  pub class : a ≡ true → same ≡ true
  pub maps : a ≡ true → alike ≡ true
  pub old : p ≡ true → q ≡ true
  pub new : q ≡ true → parts ≡ true → p ≡ true

pub no_break_from : (a b same alike p q parts : Bool) → kind_by a b same alike p q parts ≡ None → NoBreak a b same alike p q parts
no_break_from true false same alike p q parts h = cc
no_break_from true true false alike p q parts h = cc
no_break_from true true true false p q parts h = cc
no_break_from true true true true true false parts h = cc
no_break_from true true true true false true true h = cc
no_break_from true true true true true true parts h =
    record { stays = λ _. refl; class = λ _. refl; maps = λ _. refl; old = λ _. refl; new = λ _ _. refl }
no_break_from true true true true false true false h =
    record { stays = λ _. refl; class = λ _. refl; maps = λ _. refl; old = λ _. refl; new = λ _ e. cc }
no_break_from true true true true false false parts h =
    record { stays = λ _. refl; class = λ _. refl; maps = λ _. refl; old = λ e. cc; new = λ e _. cc }
no_break_from false b same alike true false parts h = cc
no_break_from false b same alike true true parts h = record { stays = λ e. cc; class = λ e. cc; maps = λ e. cc; old = λ _. refl; new = λ _ _. refl }
no_break_from false b same alike false false parts h = record { stays = λ e. cc; class = λ e. cc; maps = λ e. cc; old = λ e. cc; new = λ e _. cc }
no_break_from false b same alike false true true h = cc
no_break_from false b same alike false true false h = record { stays = λ e. cc; class = λ e. cc; maps = λ e. cc; old = λ e. refl; new = λ _ e. cc }

pub none_from : (a b same alike p q parts : Bool) → (p ≡ true → a ≡ true) → NoBreak a b same alike p q parts → kind_by a b same alike p q parts ≡ None
none_from true true true true true true parts within h = refl
none_from true true true true false false parts within h = refl
none_from true true true true false true false within h = refl
none_from true true true true false true true within h = let e = h.new refl refl in cc
none_from true true true true true false parts within h = let e = h.old refl in cc
none_from true true true false p q parts within h = let e = h.maps refl in cc
none_from true true false alike p q parts within h = let e = h.class refl in cc
none_from true false same alike p q parts within h = let e = h.stays refl in cc
none_from false b same alike true q parts within h = let e = within refl in cc
none_from false b same alike false false parts within h = refl
none_from false b same alike false true false within h = refl
none_from false b same alike false true true within h = let e = h.new refl refl in cc

-- ---- which kind it is

by_lost : (a b same alike p q parts : Bool) → a ≡ true → b ≡ false → kind_by a b same alike p q parts ≡ Some Lost
by_lost a b same alike p q parts h k = rw (h, k) refl

by_class : (a b same alike p q parts : Bool) → a ≡ true → b ≡ true → same ≡ false → kind_by a b same alike p q parts ≡ Some ClassChanged
by_class a b same alike p q parts h k l = rw (h, k, l) refl

-- of a code point that both assign with one class
abbrev kept_by : Bool → Bool → Bool → Bool → Option BreakKind
kept_by alike p q parts =
    if not alike then Some MappingChanged
    else if p then (if q then None else Some NowExcluded)
    else if q && parts then Some NowIncluded
    else None

staying : (alike p q parts : Bool) → kind_by true true true alike p q parts ≡ kept_by alike p q parts
staying false p q parts = refl
staying true true true parts = refl
staying true true false parts = refl
staying true false true true = refl
staying true false true false = refl
staying true false false parts = refl

by_staying : (a b same alike p q parts : Bool) → a ≡ true → b ≡ true → same ≡ true → kind_by a b same alike p q parts ≡ kept_by alike p q parts
by_staying a b same alike p q parts h k l = rw (h, k, l) (staying alike p q parts)

by_new : (a b same alike p q parts : Bool) → a ≡ false → p ≡ false → (q && parts) ≡ true → kind_by a b same alike p q parts ≡ Some NewComposite
by_new a b same alike p true true h k l = rw (h, k) refl
by_new a b same alike p true false h k l = cc
by_new a b same alike p false parts h k l = cc

by_neither : (a b same alike p q parts : Bool) → a ≡ false → p ≡ false → (q && parts) ≡ false → kind_by a b same alike p q parts ≡ None
by_neither a b same alike p true true h k l = cc
by_neither a b same alike p true false h k l = rw (h, k) refl
by_neither a b same alike p false parts h k l = rw (h, k) refl

test-assigned : (v : VersionData) (c : ℕ) → is_primary v c ≡ true → is_assigned v c ≡ true
test-assigned v c h = primary-assigned v c (primary-from v c h)

module _ (old new : VersionData) (c : ℕ) where
  abbrev Joins : Bool
  Joins = is_primary new c && has_old_parts old new c

  pub break-lost : is_assigned old c ≡ true → is_assigned new c ≡ false → break_of old new c ≡ Some Lost
  break-lost h k = break_of-by old new c ∙ by_lost _ _ _ _ _ _ _ h k

  pub break-class : is_assigned old c ≡ true → is_assigned new c ≡ true → class_of new c ≢ class_of old c → break_of old new c ≡ Some ClassChanged
  break-class h k l = break_of-by old new c ∙ by_class _ _ _ _ _ _ _ h k (ne_eqb _ _ l)

  unassigned-no_primary : is_assigned old c ≡ false → is_primary old c ≡ false
  unassigned-no_primary h = false_from_ne_true _ (λ p. both_ways _ h (test-assigned old c p))

  pub break-new : is_assigned old c ≡ false → Joins ≡ true → break_of old new c ≡ Some NewComposite
  break-new h j = break_of-by old new c ∙ by_new _ _ _ _ _ _ _ h (unassigned-no_primary h) j

  pub break-neither : is_assigned old c ≡ false → Joins ≡ false → break_of old new c ≡ None
  break-neither h j = break_of-by old new c ∙ by_neither _ _ _ _ _ _ _ h (unassigned-no_primary h) j

-- the break of a code point that both assign with one class
pub break_of_staying : (old new : VersionData) (c : ℕ) → is_assigned old c ≡ true → is_assigned new c ≡ true → class_of new c ≡ class_of old c → break_of old new c ≡ kept_by (maps_alike old new c) (is_primary old c) (is_primary new c) (has_old_parts old new c)
break_of_staying old new c in_old in_new class = break_of-by old new c ∙ by_staying _ _ _ _ _ _ _ in_old in_new (eq-eqb _ _ class)

-- ---- no code point has a break exactly where the new version extends the old one

same_kind-true : (k l : MapKind) → is_same_kind k l ≡ true → k ≡ l
same_kind-true Plain Plain h = refl
same_kind-true Canonical Canonical h = refl
same_kind-true Compatibility Compatibility h = refl
same_kind-true Plain Canonical h = cc
same_kind-true Plain Compatibility h = cc
same_kind-true Canonical Plain h = cc
same_kind-true Canonical Compatibility h = cc
same_kind-true Compatibility Plain h = cc
same_kind-true Compatibility Canonical h = cc

same_kind_self : (k : MapKind) → is_same_kind k k ≡ true
same_kind_self Plain = refl
same_kind_self Canonical = refl
same_kind_self Compatibility = refl

module _ (old new : VersionData) where
  pub alike-same : (c : ℕ) → maps_alike old new c ≡ true → (decomposition_kind new c ≡ decomposition_kind old c) × (decomposition_mapping new c ≡ decomposition_mapping old c)
  unfolding maps_alike
  alike-same c h =
      let halves = and_parts (is_same_kind (decomposition_kind new c) (decomposition_kind old c)) _ h in
      (same_kind-true _ _ halves.0, (bytes_eq-Decides (decomposition_mapping new c) (decomposition_mapping old c)).0 halves.1)

  pub alike_from : (c : ℕ) → decomposition_kind new c ≡ decomposition_kind old c → decomposition_mapping new c ≡ decomposition_mapping old c → maps_alike old new c ≡ true
  unfolding maps_alike
  alike_from c k m =
      and_from _ _ (ap (λ l. is_same_kind l (decomposition_kind old c)) k ∙ same_kind_self (decomposition_kind old c))
      ((bytes_eq-Decides (decomposition_mapping new c) (decomposition_mapping old c)).1 m)

  abbrev NoBreakAt : ℕ → Type 0
  NoBreakAt c =
      NoBreak (is_assigned old c) (is_assigned new c) (class_of new c == class_of old c) (maps_alike old new c) (is_primary old c) (is_primary new c) (has_old_parts old new c)

  no_break_at : (c : ℕ) → break_of old new c ≡ None → NoBreakAt c
  no_break_at c h = no_break_from _ _ _ _ _ _ _ (sym (break_of-by old new c) ∙ h)

  pub Extends-from_none : ((c : ℕ) → break_of old new c ≡ None) → Extends old new
  unfolding has_old_parts
  Extends-from_none none =
      record {
        keeps = λ c h.
            let at = no_break_at c (none c) in
            let same = alike-same c (at.maps h) in
            record { assigned = at.stays h; class = eqb-true _ _ (at.class h); kind = same.0; mapping = same.1 };
        old_composites = λ c h. primary-from new c ((no_break_at c (none c)).old (primary-test old c h));
        new_composites = λ c h parts. primary-from old c ((no_break_at c (none c)).new (primary-test new c h) parts);
      }

  pub none_from_Extends : Extends old new → (c : ℕ) → break_of old new c ≡ None
  unfolding has_old_parts
  none_from_Extends ext c =
      break_of-by old new c
      ∙ none_from _ _ _ _ _ _ _ (test-assigned old c)
      (record {
        stays = λ h. (ext.keeps c h).assigned;
        class = λ h. eq-eqb _ _ (ext.keeps c h).class;
        maps = λ h. let kept = ext.keeps c h in alike_from c kept.kind kept.mapping;
        old = λ h. primary-test new c (ext.old_composites c (primary-from old c h));
        new = λ h parts. primary-test old c (ext.new_composites c (primary-from new c h) parts);
      })

  -- a code point that both versions have alike, as a primary composite or not in both
  pub none_where_same : (c : ℕ) → is_assigned old c ≡ true → is_assigned new c ≡ true → class_of new c ≡ class_of old c → maps_alike old new c ≡ true → is_primary old c ≡ is_primary new c
      → break_of old new c ≡ None
  none_where_same c in_old in_new class alike same =
      break_of-by old new c
      ∙ none_from _ _ _ _ _ _ _ (test-assigned old c)
      (record {
        stays = λ _. in_new;
        class = λ _. eq-eqb _ _ class;
        maps = λ _. alike;
        old = λ h. sym same ∙ h;
        new = λ h _. same ∙ h;
      })

  -- a break is at a code point that one of the versions assigns
  unassigned-none : (c : ℕ) → is_assigned old c ≡ false → is_assigned new c ≡ false → break_of old new c ≡ None
  unassigned-none c in_old in_new =
      break_of-by old new c
      ∙ none_from _ _ _ _ _ _ _ (test-assigned old c)
      (record {
        stays = λ h. absurd (both_ways _ in_old h);
        class = λ h. absurd (both_ways _ in_old h);
        maps = λ h. absurd (both_ways _ in_old h);
        old = λ h. absurd (both_ways _ in_old (test-assigned old c h));
        new = λ h _. absurd (both_ways _ in_new (test-assigned new c h));
      })

  pub past-none : IsSound old → IsSound new → (n c : ℕ) → n ≡ 0x110000 → n ≤ c → break_of old new c ≡ None
  past-none sound_old sound_new n c end past =
      unassigned-none c
      (false_from_ne_true _ (λ h. let lt = sound_old.bounded c h in absurd (omega arith)))
      (false_from_ne_true _ (λ h. let lt = sound_new.bounded c h in absurd (omega arith)))
