-- The folding of a record is the one that the grammar says.
use Rattle.std.proofs.Common.{◌≡◌, ◌≢◌, ℕ, ◌<◌, ◌≤◌, ◌⊎◌, Bool, true, false, cond, List, [], ◌∷◌, length, Option, Some, None, refl, sym, ap, subst, ◌∙◌, inl, inr, ⊎_elim, arith}
use lib.Utf8.{scalar}
use Rattle.std.specs.List.{AllZip, list_all}
use Rattle.std.specs.Str.{bytes_eq}
use Rattle.std.proofs.lemmas.Bool.{both_ways, and_from, cases_lt}
use Rattle.std.proofs.lemmas.Slice.Eq.{bytes_eq-Decides}
use Rattle.np_code_points.specs.Codes.{IsScalarOf}
use Rattle.np_foldings.specs.AllFoldings.{SaysFolding}
use Rattle.np_foldings.specs.Fields.{Fields, Head, IsMapping}
use Rattle.np_foldings.specs.Foldings.{Folding, IsFolding}
use Rattle.np_foldings.specs.Statuses.{Status, Common, Full, Simple, Turkic, IsUsed, place_of}
use Rattle.np_foldings.specs.inside.HeadReading.{is_out_of_order, conflicts}
use Rattle.np_foldings.specs.inside.RecordReading.{Record, foldings_as, foldings_of}
use Rattle.np_foldings.proofs.FieldGrammar.{mapping_said, mapping_read}
use Rattle.np_foldings.proofs.HeadGrammar.{head_at, same_head, same_status, order_read, conflicts_read}
use Rattle.np_foldings.proofs.TestGrammar.{IsJudged, has_head, only_head}

-- The code points stand above that of the record before.
abbrev pub IsAbove : Option Head → ℕ → Type 0
IsAbove None n = Unit {0}
IsAbove (Some b) n = b.code < n

abbrev pub IsNotBelow : Option Head → ℕ → Type 0
IsNotBelow None n = Unit {0}
IsNotBelow (Some b) n = b.code ≤ n

pub not_below : (b : Option Head) (h : Head) → is_out_of_order b h ≡ false → IsNotBelow b h.code
not_below None h e = tt
not_below (Some b) h e =
    ⊎_elim (λ low. absurd (both_ways (is_out_of_order (Some b) h) e (order_read (Some b) h (inl low)))) (λ high. high) (cases_lt h.code b.code)

pub above_higher : (b : Option Head) (n m : ℕ) → IsNotBelow b n → n < m → IsAbove b m
above_higher None n m h l = tt
above_higher (Some b) n m h l = omega (arith, h)

-- of one code point a later status than each
later : (b h : Head) → is_out_of_order (Some b) h ≡ false → h.code ≡ b.code → place_of b.status < place_of h.status
later b h e same =
    ⊎_elim (λ l. l) (λ l. absurd (both_ways (is_out_of_order (Some b) h) e (order_read (Some b) h (inr (same, l))))) (cases_lt (place_of b.status) (place_of h.status))

some_place : (s : Status) → 1 ≤ place_of s
some_place Common = omega arith
some_place Full = omega arith
some_place Simple = omega arith
some_place Turkic = omega arith

common_first : (b h : Head) → is_out_of_order (Some b) h ≡ false → h.status ≡ Common → h.code ≡ b.code → ⊥
common_first b h e is same =
    let l = later b h e same in
    let s = some_place b.status in
    let p = ap place_of is in
    absurd (omega arith)

full_alone : (b h : Head) → is_out_of_order (Some b) h ≡ false → conflicts (Some b) h ≡ false → h.status ≡ Full → h.code ≡ b.code → ⊥
full_alone b h e goes is same =
    let l = later b h e same in
    let s = some_place b.status in
    let p = ap place_of is in
    let common : b.status ≡ Common = same_status b.status Common (omega arith) in
    both_ways (conflicts (Some b) h) goes (conflicts_read (Some b) h (inl (is, ap Some (same_head b h.code Common (sym same) common))))

used_above : (b : Option Head) (h : Head) → is_out_of_order b h ≡ false → conflicts b h ≡ false → IsUsed h.status → IsAbove b h.code
used_above None h e goes used = tt
used_above (Some b) h e goes used =
    ⊎_elim (λ above. above)
    (λ low.
    let not' = not_below (Some b) h e in
    let same : h.code ≡ b.code = omega (arith, not') in
    absurd (⊎_elim (λ common. common_first b h e common same) (λ full. full_alone b h e goes full same) used))
    (cases_lt b.code h.code)

-- What a mapping holds.
all_scalar : (words : List (List ℕ)) (codes : List ℕ) → AllZip IsScalarOf words codes → list_all scalar codes ≡ true
all_scalar [] [] h = refl
all_scalar [] (c ∷ codes) h = absurd h
all_scalar (w ∷ words) [] h = absurd h
all_scalar (w ∷ words) (c ∷ codes) h = and_from (scalar c) (list_all scalar codes) h.0.1 (all_scalar words codes h.1)

record Fits (codes : List ℕ) : Type 0 where
  scalars : list_all scalar codes ≡ true
  some : 1 ≤ length codes
  few : length codes ≤ 32

fits : (s : Status) (text codes : List ℕ) → IsMapping s text codes → Fits codes
fits Common text codes h = let l = h.few in record { scalars = all_scalar h.words codes h.say; some = h.some; few = omega arith }
fits Full text codes h = record { scalars = all_scalar h.0.words codes h.0.say; some = h.0.some; few = h.0.few }
fits Simple text codes h = let l = h.few in record { scalars = all_scalar h.words codes h.say; some = h.some; few = omega arith }
fits Turkic text codes h = let l = h.few in record { scalars = all_scalar h.words codes h.say; some = h.some; few = omega arith }

-- Which folding a record has: none, or one.
abbrev pub at_folding : ℕ → List ℕ → Folding
at_folding code mapping = record { code = code; mapping = mapping }

pub record IsOne (b : Option Head) (text : List ℕ) (r : Record) (f : Folding) : Type 0 where
  pub is : foldings_of r ≡ f ∷ []
  pub says : SaysFolding text f
  pub only : (g : Folding) → SaysFolding text g → g ≡ f
  pub above : IsAbove b f.code
  pub at : f.code ≡ r.head.code
  pub fine : IsFolding f

pub record IsNone (text : List ℕ) (r : Record) : Type 0 where
  pub is : foldings_of r ≡ []
  pub says : (f : Folding) → SaysFolding text f → ⊥

module _ (b : Option Head) (text : List ℕ) (r : Record) (j : IsJudged b text r) where
  -- what a record says is what was read of it
  same_as : (f : Folding) (says : SaysFolding text f) → (says.status ≡ r.head.status) × (f ≡ at_folding r.head.code r.mapping)
  same_as f says =
      let same = only_head text j.fields says.fields r.head (head_at f.code says.status) j.fields_are j.code j.status says.head in
      let status : says.status ≡ r.head.status = ap (λ (h : Head). h.status) same.1 in
      let code : f.code ≡ r.head.code = ap (λ (h : Head). h.code) same.1 in
      let is : IsMapping r.head.status j.fields.mapping f.mapping =
      subst (λ (s : Status). IsMapping s j.fields.mapping f.mapping) status (subst (λ (g : Fields). IsMapping says.status g.mapping f.mapping) same.0 says.mapping) in
      let both : Some f.mapping ≡ Some r.mapping = sym (mapping_read r.head.status j.fields.mapping f.mapping is) ∙ j.mapping in
      let mapping : f.mapping ≡ r.mapping = cc in
      (status, ap (λ n. at_folding n f.mapping) code ∙ ap (at_folding r.head.code) mapping)

  unused : (r.head.status ≡ Simple) ⊎ (r.head.status ≡ Turkic) → foldings_of r ≡ [] → IsNone text r
  unused other is = record {
    is = is;
    says = λ f says.
        let same = (same_as f says).0 in
        ⊎_elim
        (λ common. ⊎_elim (λ o. let clash = sym common ∙ same ∙ o in absurd (cc)) (λ o. let clash = sym common ∙ same ∙ o in absurd (cc)) other)
        (λ full. ⊎_elim (λ o. let clash = sym full ∙ same ∙ o in absurd (cc)) (λ o. let clash = sym full ∙ same ∙ o in absurd (cc)) other)
        says.used;
  }

  unchanged : foldings_of r ≡ [] → r.mapping ≡ r.head.code ∷ [] → IsNone text r
  unchanged is same = record {
    is = is;
    says = λ f says.
        let e = (same_as f says).1 in
        says.changes (ap (λ (g : Folding). g.mapping) e ∙ same ∙ ap (λ (g : Folding). g.code ∷ []) (sym e));
  }

  changed : IsUsed r.head.status → foldings_of r ≡ at_folding r.head.code r.mapping ∷ [] → (r.mapping ≢ r.head.code ∷ []) → IsOne b text r (at_folding r.head.code r.mapping)
  changed used is changes =
      let mapping = mapping_said r.head.status j.fields.mapping r.mapping j.mapping in
      let f = fits r.head.status j.fields.mapping r.mapping mapping in
      record {
        is = is;
        says = record {
          fields = j.fields;
          status = r.head.status;
          head = has_head text j.fields r.head j.fields_are j.code j.status;
          used = used;
          mapping = mapping;
          changes = changes;
        };
        only = λ g says. (same_as g says).1;
        above = used_above b r.head j.order j.goes used;
        at = refl;
        fine = record { scalar_code = j.scalar_code; scalars = f.scalars; some = f.some; few = f.few; changes = changes };
      }

  used_step : (t : Bool) → bytes_eq r.mapping (r.head.code ∷ []) ≡ t → IsUsed r.head.status → foldings_of r ≡ cond t [] (at_folding r.head.code r.mapping ∷ []) → IsNone text r ⊎ IsOne b text r (at_folding r.head.code r.mapping)
  used_step true e used is = inl (unchanged is ((bytes_eq-Decides r.mapping (r.head.code ∷ [])).0 e))
  used_step false e used is =
      inr (changed used is (λ same. both_ways (bytes_eq r.mapping (r.head.code ∷ [])) e ((bytes_eq-Decides r.mapping (r.head.code ∷ [])).1 same)))

  status_step : (s : Status) → r.head.status ≡ s → foldings_of r ≡ foldings_as s r.head.code r.mapping → IsNone text r ⊎ IsOne b text r (at_folding r.head.code r.mapping)
  status_step Common e is = used_step (bytes_eq r.mapping (r.head.code ∷ [])) refl (inl e) is
  status_step Full e is = used_step (bytes_eq r.mapping (r.head.code ∷ [])) refl (inr e) is
  status_step Simple e is = inl (unused (inl e) is)
  status_step Turkic e is = inl (unused (inr e) is)

  pub folding_cases : IsNone text r ⊎ IsOne b text r (at_folding r.head.code r.mapping)
  folding_cases = status_step r.head.status refl refl
