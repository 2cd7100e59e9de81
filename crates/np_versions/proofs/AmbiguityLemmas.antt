-- Pairs that two primary composites share.
use Rattle.std.proofs.Common.{◌≡◌, ℕ, zero, suc, ◌+◌, ◌-◌, ◌<◌, ◌≤◌, max, true, ◌&&◌, List, [], ◌∷◌, length, get_or, Some, Option, IfSome, refl, sym, ap, ◌∙◌, arith, inl, inr}
use Rattle.np_versions.proofs.Words.{slice_get, cases_Bool, cases_lt, and_parts, both_ways, same_Some, slice_get_within, get_or_from_slice_get}
use Rattle.np_versions.proofs.Words.{slice_get-get_or, get_or_default, AreRows, is_syllable, syllable_pair, VersionData, has_hangul, IsCompositeOf, IsAmbiguous}
use Rattle.np_versions.proofs.Words.{IsFirst, Composite, Lists, AreOfFile, AreOrdered, IsAtMost, least_of, HasSmallerTwin, IsSuspect}
use Rattle.np_code_points.proofs.HangulLemmas.{pair_injective}
use Rattle.np_versions.proofs.HangulLemmas.{decomposition_mapping-on}
use Rattle.np_versions.proofs.CompositeLemmas.{primary-syllable}

-- ---- the lesser of two

pub at_most_left : (a b : Option ℕ) (c : ℕ) → IsAtMost a c → IsAtMost (least_of a b) c
at_most_left a b c h = grind arith

pub at_most_right : (a b : Option ℕ) (c : ℕ) → IsAtMost b c → IsAtMost (least_of a b) c
at_most_right a b c h = grind arith

pub least_has : (P : ℕ → Type 0) (a b : Option ℕ) → IfSome a P → IfSome b P → IfSome (least_of a b) P
least_has P a b p q = grind arith

-- ---- from ambiguous code points to places

place_of : (cs : List Composite) (a b c : ℕ) → Lists cs a b c → (k : ℕ) × (slice_get cs k ≡ Some (record { first = a; second = b; code = c }))
place_of cs a b c h = (h.0, slice_get-get_or cs h.0 _ h.1 ∙ ap Some h.2)

module _ (v : VersionData) (cs : List Composite) where
  pub record Found (c : ℕ) : Type 0 where
    pub place : ℕ
    pub code : ℕ
    pub within : place < length cs
    pub suspect : IsSuspect v cs place code
    pub low : code ≤ c

  module _ (order : AreOrdered cs) where
    -- from a smaller composite up to a greater one of the same pair, somewhere the composite rises
    climb : (n j k a b low high : ℕ) → j + n ≡ k → k < length cs → (d : Composite) → (get_or cs j d).first ≡ a → (get_or cs j d).second ≡ b → (get_or cs j d).code ≤ low →
        get_or cs k d ≡ record { first = a; second = b; code = high } → low < high → Found high
    climb zero j k a b low high to lt d first second code top less = grind arith
    climb (suc n) j k a b low high to lt d first second code top less =
        let in_next : j + 1 < length cs = omega arith in
        let in_here : j < length cs = omega arith in
        let up = order.rising j (j + 1) d (omega arith) in_next in
        let top_up = order.rising (j + 1) k d (omega arith) lt in
        let range_next = order.range (j + 1) d in_next in
        let range_top = order.range k d lt in
        let next_first : (get_or cs (j + 1) d).first ≡ a = grind arith in
        let next_second : (get_or cs (j + 1) d).second ≡ b = grind arith in
        elim (cases_lt (get_or cs j d).code (get_or cs (j + 1) d).code) [
          | inl rises ↦
              let before_at = slice_get-get_or cs j d in_here in
              let here_at = slice_get-get_or cs (j + 1) d in_next in
              record {
                place = j + 1;
                code = (get_or cs (j + 1) d).code;
                within = in_next;
                suspect = inl (record {
                  twin = record {
                    behind = j;
                    next = refl;
                    before = get_or cs j d;
                    here = get_or cs (j + 1) d;
                    before_at = before_at;
                    here_at = here_at;
                    first = first ∙ sym next_first;
                    second = second ∙ sym next_second;
                    smaller = rises;
                  };
                  here = get_or cs (j + 1) d;
                  here_at = here_at;
                  code = refl;
                });
                low = grind arith;
              }
          | inr falls ↦ climb n (j + 1) k a b low high (omega arith) lt d next_first next_second (omega arith) top less
        ]

    twins : (a b d c : ℕ) → Lists cs a b d → Lists cs a b c → d < c → Found c
    twins a b d c low high less =
        let x : Composite = record { first = a; second = b; code = c } in
        let low_is = get_or_default cs low.0 x (record { first = a; second = b; code = d }) low.1 ∙ low.2 in
        elim (cases_lt low.0 high.0) [
          | inl before ↦ climb (high.0 - low.0) low.0 high.0 a b d c (omega arith) high.1 x (cc) (cc) (grind arith) high.2 less
          | inr behind ↦ let up = order.rising high.0 low.0 x behind low.1 in absurd (grind arith)
        ]

    module _ (rows : AreRows v.entries) (file : AreOfFile v cs) where
      beside : (a b s c d : ℕ) → (has_hangul v && is_syllable s) ≡ true → syllable_pair s ≡ a ∷ b ∷ [] → Lists cs a b d → c ≡ max s d → Found c
      beside a b s c d on pair lists is =
          let at = place_of cs a b d lists in
          record {
            place = at.0;
            code = c;
            within = slice_get_within cs at.0 _ at.1;
            suspect = inr (record { here = record { first = a; second = b; code = d }; here_at = at.1; syllable = s; on = on; pair = pair; code = is });
            low = omega arith;
          }

      pub found : (c : ℕ) → IsAmbiguous v c → Found c
      found c h =
          let pair = h.primary.pair in
          let a = h.primary.first in
          let b = h.primary.second in
          let here : IsCompositeOf v a b c = record { primary = h.primary; mapping = pair } in
          let there : IsCompositeOf v a b h.other = record { primary = h.other_primary; mapping = h.same ∙ pair } in
          elim (cases_Bool (has_hangul v && is_syllable c)) [
            | inl on ↦
                let own : syllable_pair c ≡ a ∷ b ∷ [] = sym (decomposition_mapping-on v c on) ∙ pair in
                elim (cases_Bool (has_hangul v && is_syllable h.other)) [
                  | inl other_on ↦ let less = h.smaller in grind (arith, pair_injective, and_parts, decomposition_mapping-on)
                  | inr other_off ↦ let less = h.smaller in beside a b c c h.other on own (file.all a b h.other there other_off) (omega arith)
                ]
            | inr off ↦ elim (cases_Bool (has_hangul v && is_syllable h.other)) [
              | inl other_on ↦ beside a b h.other c c other_on (sym (decomposition_mapping-on v h.other other_on) ∙ there.mapping) (file.all a b c here off) (let less = h.smaller in omega arith)
              | inr other_off ↦ twins a b h.other c (file.all a b h.other there other_off) (file.all a b c here off) h.smaller
            ]
          ]

  -- ---- from places to ambiguous code points

  module _ (file : AreOfFile v cs) where
    listed : (k : ℕ) (x : Composite) → slice_get cs k ≡ Some x → Lists cs x.first x.second x.code
    listed k x h = (k, slice_get_within cs k _ h, get_or_from_slice_get cs k _ _ h)

    pub twin_ambiguous : (k c : ℕ) (here : Composite) → HasSmallerTwin cs k → slice_get cs k ≡ Some here → c ≡ here.code → IsAmbiguous v c
    twin_ambiguous k c here t at is =
        let same = same_Some t.here here (sym t.here_at ∙ at) in
        let high = file.composites here.first here.second here.code (listed k here at) in
        let low = file.composites t.before.first t.before.second t.before.code (listed t.behind t.before t.before_at) in
        let second : t.before.second ≡ here.second = t.second ∙ ap (λ (y : Composite). y.second) same in
        let code = ap (λ (y : Composite). y.code) same in
        let less = t.smaller in
        grind arith

    pub beside_ambiguous : (k c s : ℕ) (here : Composite) → AreRows v.entries → slice_get cs k ≡ Some here → (has_hangul v && is_syllable s) ≡ true → syllable_pair s ≡ here.first ∷ here.second ∷ [] → c ≡ max s here.code → IsAmbiguous v c
    beside_ambiguous k c s here rows at on pair is =
        let lists = listed k here at in
        let composite = file.composites here.first here.second here.code lists in
        let off = file.no_syllables here.first here.second here.code lists in
        let primary = primary-syllable v s rows on in
        let same = decomposition_mapping-on v s on ∙ pair ∙ sym composite.mapping in
        grind (arith, both_ways)

  pub beside_least : (k m s : ℕ) (here : Composite) → slice_get cs k ≡ Some here → (has_hangul v && is_syllable s) ≡ true → syllable_pair s ≡ here.first ∷ here.second ∷ [] → m ≡ max s here.code →
      ¬ HasSmallerTwin cs k → (c : ℕ) → IsSuspect v cs k c → m ≤ c
  beside_least k m s here at on pair is lone c (inl twin) = absurd (lone twin.twin)
  beside_least k m s here at on pair is lone c (inr b) = grind (arith, same_Some, pair_injective, and_parts)

-- ---- the least of all

at_most_low : (o : Option ℕ) (c d : ℕ) → c ≤ d → IsAtMost o c → IsAtMost o d
at_most_low o c d le h = grind arith

pub is_first : (P : ℕ → Type 0) (first : Option ℕ) → IfSome first P → ((c : ℕ) → P c → IsAtMost first c) → IsFirst P first
is_first P first has least = grind arith

pub first_of_places : (v : VersionData) (cs : List Composite) → AreOrdered cs → AreRows v.entries → AreOfFile v cs → (first : Option ℕ) → IfSome first (IsAmbiguous v) →
    ((k c : ℕ) → k < length cs → IsSuspect v cs k c → IsAtMost first c) → IsFirst (IsAmbiguous v) first
first_of_places v cs order rows file first has least =
    is_first (IsAmbiguous v) first has
    (λ c h. let f = found v cs order rows file c h in at_most_low first f.code c f.low (least f.place f.code f.within f.suspect))
