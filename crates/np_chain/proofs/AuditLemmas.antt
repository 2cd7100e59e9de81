-- All breaks below a code point, and the first one.
use Rattle.std.proofs.Common.{◌≡◌, ℕ, zero, suc, ◌+◌, ◌<◌, ◌≤◌, ◌⊎◌, ◌↔◌, List, [], ◌∷◌, ◌++◌, Option, Some, None, refl, sym, ap, subst, ◌∙◌, arith, inl, inr, append-nil}
use Rattle.std.proofs.lemmas.Bool.{cases_eq, cases_lt}
use Rattle.std.proofs.lemmas.List.Elements.{All-nil, All-push, Contains-push, Contains-append_left}
use Rattle.std.proofs.lemmas.List.Quantifiers.{all_pairs_push}
use Rattle.std.specs.List.{All, AllPairs, Contains}
use Rattle.np_chain.specs.Breaks.{AreBreaks, IsFirstBreak}
use Rattle.np_chain.specs.inside.BreakTests.{break_of}
use Rattle.np_chain.specs.inside.BreakLists.{break_list, breaks_below, breaks_of}
use Rattle.np_chain.specs.Extension.{Extends}
use Rattle.np_chain.specs.declared.breaks.Break.{Break}
use Rattle.np_chain.specs.declared.breaks.BreakKind.{BreakKind}
use Rattle.np_chain.proofs.KindLemmas.{break_of-is, break_of-none, break_of-some}
use Rattle.np_chain.proofs.BreakLemmas.{Extends-from_none, none_from_Extends, past-none}
use Rattle.np_versions.specs.Conditions.{IsSound}
use Rattle.np_versions.specs.Versions.{VersionData}

abbrev broken : BreakKind → ℕ → Break
broken kind c = record { kind = kind; code = c }

cases_break : (o : Option BreakKind) → (o ≡ None) ⊎ ((kind : BreakKind) × (o ≡ Some kind))
cases_break None = inl refl
cases_break (Some kind) = inr (kind, refl)

module _ (old new : VersionData) where
  -- ---- the list of the breaks below n

  pub below-zero : [] ≡ breaks_below old new 0
  unfolding breaks_below
  below-zero = refl

  below-suc : (n : ℕ) → breaks_below old new (suc n) ≡ breaks_below old new n ++ break_list (break_of old new n) n
  unfolding breaks_below
  below-suc n = refl

  pub below-none : (n : ℕ) → break_of old new n ≡ None → breaks_below old new (n + 1) ≡ breaks_below old new n
  below-none n none =
      let same : n + 1 ≡ suc n = omega arith in
      ap (breaks_below old new) same ∙ below-suc n ∙ ap (λ o. breaks_below old new n ++ break_list o n) none
      ∙ append-nil (breaks_below old new n)

  pub below-some : (n : ℕ) (kind : BreakKind) → break_of old new n ≡ Some kind → breaks_below old new (n + 1) ≡ breaks_below old new n ++ broken kind n ∷ []
  below-some n kind some =
      let same : n + 1 ≡ suc n = omega arith in
      ap (breaks_below old new) same ∙ below-suc n ∙ ap (λ o. breaks_below old new n ++ break_list o n) some

  pub nil_below : ((c : ℕ) → break_of old new c ≡ None) → (n : ℕ) → breaks_below old new n ≡ []
  nil_below none zero = sym below-zero
  nil_below none (suc n) =
      below-suc n ∙ ap (λ o. breaks_below old new n ++ break_list o n) (none n) ∙ append-nil (breaks_below old new n) ∙ nil_below none n

  record AreBelow (n : ℕ) (breaks : List Break) : Type 0 where
    each : All (λ b. break_of old new b.code ≡ Some b.kind) breaks
    below : All (λ b. b.code < n) breaks
    rises : AllPairs (λ b d. b.code < d.code) breaks
    whole : (c : ℕ) (kind : BreakKind) → c < n → break_of old new c ≡ Some kind → Contains breaks (broken kind c)

  more-none : (n : ℕ) (breaks : List Break) → AreBelow n breaks → break_of old new n ≡ None → AreBelow (suc n) breaks
  more-none n breaks are none =
      record {
        each = are.each;
        below = λ k d lt. let h = are.below k d lt in omega arith;
        rises = are.rises;
        whole = λ c kind lt h.
            elim (cases_eq c n) [
              | inl same ↦ let e = ap (break_of old new) same in cc
              | inr other ↦ are.whole c kind (omega arith) h
            ];
      }

  more-some : (n : ℕ) (breaks : List Break) (kind : BreakKind) → AreBelow n breaks → break_of old new n ≡ Some kind → AreBelow (suc n) (breaks ++ broken kind n ∷ [])
  more-some n breaks kind are some =
      record {
        each = All-push (λ b. break_of old new b.code ≡ Some b.kind) breaks (broken kind n) are.each some;
        below = All-push (λ b. b.code < suc n) breaks (broken kind n) (λ k d lt. let h = are.below k d lt in omega arith) (omega arith);
        rises = all_pairs_push (λ b d. b.code < d.code) breaks (broken kind n) are.rises (λ k d lt. are.below k d lt);
        whole = λ c other lt h.
            elim (cases_eq c n) [
              | inl same ↦
                  let e : Some kind ≡ Some other = sym some ∙ sym (ap (break_of old new) same) ∙ h in
                  let f : broken kind n ≡ broken other c = cc in
                  subst (λ b. Contains (breaks ++ broken kind n ∷ []) b) f (Contains-push breaks (broken kind n))
              | inr before ↦ Contains-append_left breaks (broken kind n ∷ []) (broken other c) (are.whole c other (omega arith) h)
            ];
      }

  are_below : (n : ℕ) → AreBelow n (breaks_below old new n)
  are_below zero =
      subst (AreBelow zero) below-zero
      (record {
        each = All-nil (λ b. break_of old new b.code ≡ Some b.kind);
        below = All-nil (λ b. b.code < zero);
        rises = λ i j d lt in'. absurd (omega arith);
        whole = λ c kind lt h. absurd (omega arith);
      })
  are_below (suc n) =
      elim (cases_break (break_of old new n)) [
        | inl none ↦
            subst (AreBelow (suc n)) (sym (below-suc n ∙ ap (λ o. breaks_below old new n ++ break_list o n) none ∙ append-nil (breaks_below old new n)))
            (more-none n (breaks_below old new n) (are_below n) none)
        | inr some ↦
            subst (AreBelow (suc n)) (sym (below-suc n ∙ ap (λ o. breaks_below old new n ++ break_list o n) some.1))
            (more-some n (breaks_below old new n) some.0 (are_below n) some.1)
      ]

  -- ---- where no code point from n on has a break

  module _ (n : ℕ) (past : (c : ℕ) → n ≤ c → break_of old new c ≡ None) where
    AreBreaks-below : AreBreaks old new (breaks_below old new n)
    AreBreaks-below =
        let are = are_below n in
        record {
          each = λ k d lt. break_of-is old new _ _ (are.each k d lt);
          rises = are.rises;
          whole = λ c kind is.
              let h = break_of-some old new c kind is in
              elim (cases_lt c n) [ inl lt ↦ are.whole c kind lt h | inr le ↦ let none = past c le in cc ];
        }

  none_from_nil : AreBreaks old new [] → (c : ℕ) → break_of old new c ≡ None
  none_from_nil are c =
      elim (cases_break (break_of old new c)) [
        | inl none ↦ none
        | inr some ↦ let place = are.whole c some.0 (break_of-is old new c some.0 some.1) in let lt = place.1 in absurd (omega arith)
      ]

  nil_from_none : (breaks : List Break) → AreBreaks old new breaks → ((c : ℕ) → break_of old new c ≡ None) → breaks ≡ []
  nil_from_none [] are none = refl
  nil_from_none (b ∷ bs) are none = absurd (break_of-none old new b.code (none b.code) b.kind (are.each 0 b (omega arith)).has)

  pub nil_exactly : (breaks : List Break) → AreBreaks old new breaks → (breaks ≡ []) ↔ Extends old new
  nil_exactly breaks are = (
    λ nil. Extends-from_none old new (none_from_nil (subst (AreBreaks old new) nil are)),
    λ ext. nil_from_none breaks are (none_from_Extends old new ext),
  )

  -- ---- at the end of the code points

  module _ (sound_old : IsSound old) (sound_new : IsSound new) where
    pub AreBreaks-end : (n : ℕ) → n ≡ 0x110000 → AreBreaks old new (breaks_below old new n)
    AreBreaks-end n end = AreBreaks-below n (λ c le. past-none old new sound_old sound_new n c end le)

    pub breaks_of-end : (n : ℕ) → n ≡ 0x110000 → breaks_below old new n ≡ breaks_of old new
    unfolding breaks_of
    breaks_of-end n end = ap (breaks_below old new) end

    pub Extends-end : (n : ℕ) → n ≡ 0x110000 → ((c : ℕ) → c < n → break_of old new c ≡ None) → Extends old new
    Extends-end n end none =
        Extends-from_none old new
        (λ c. elim (cases_lt c n) [ inl lt ↦ none c lt | inr le ↦ past-none old new sound_old sound_new n c end le ])

  pub first-refutes : (first : Break) → IsFirstBreak old new first → Extends old new → ⊥
  first-refutes first is ext = break_of-none old new first.code (none_from_Extends old new ext first.code) first.kind is.breaks.has

  -- the first one that a loop meets
  pub first_is : (n : ℕ) (kind : BreakKind) → ((c : ℕ) → c < n → break_of old new c ≡ None) → break_of old new n ≡ Some kind → IsFirstBreak old new (broken kind n)
  first_is n kind none some =
      record {
        breaks = break_of-is old new n kind some;
        least = λ c other h.
            elim (cases_lt c n) [ inl lt ↦ absurd (break_of-none old new c (none c lt) other h) | inr le ↦ le ];
      }
