-- What code points compose to, written as UTF-8, and precomputed forms, slot by slot, in one flat list.
use Rattle.std.proofs.Common.{◌≡◌, ℕ, ◌+◌, ◌-◌, ◌<◌, ◌≤◌, List, [], ◌∷◌, ◌++◌, None, length, map, get_or, encode_utf8, encode_utf8_all, IsUtf8, refl, sym, ap, subst, ◌∙◌, arith, inl, inr, append_assoc, append-nil, take_all, Bool, true, false, take, MatchBool, length-take-le}
use Rattle.np_tables.proofs.Words.{slice_range, cases_lt, get_or_append_left, get_or_past, length-append, length-map, map_push, All-head, All-tail, All-push}
use Rattle.np_tables.proofs.Words.{All-weaker, IsUtf8-nil, get_or-append_seam, Form, VersionData, class_of, composite, AreByteRanges, ArePrecomputedForms}
use Rattle.np_tables.proofs.Words.{ArePrecomputedSoFar, ComposesOn, IsByteRange, IsPrecomputedForm, Settles, Writes, byte_range_of, Composes, IsFront, Nfd}
use Rattle.np_tables.proofs.Words.{Nfc, Nfkd, Nfkc, composes, is_compat, NeverFalls, IsSound, Properties, FullLists, of_kind, table_full, ArePropertiesOf}
use Rattle.np_tables.proofs.Words.{no_properties, property_place}
use Rattle.np_tables.specs.declared.precomputed_forms.ByteRange.{ByteRange}
use Rattle.np_tables.specs.declared.precomputed_tables.PrecomputedTables.{PrecomputedTables}
use Rattle.np_tables.specs.inside.PrecomputedTables.{ArePrecomputedTables, IsPrecomputedOf, kept_of, ArePageTables}
use Rattle.np_tables.proofs.FullListLemmas.{code_range_of-grown}
use Rattle.np_versions.proofs.CompositeLemmas.{composite-none, composite-some}
use Rattle.np_versions.proofs.TableLemmas.{IsLent-table_full}
use Rattle.np_versions.specs.Precomputed as public

byte_range_of-grown : (old more : List ℕ) (s : ByteRange) → IsByteRange (length old) s → byte_range_of (old ++ more) s ≡ byte_range_of old s
byte_range_of-grown old more s is = code_range_of-grown old more (record { start = s.start; end = s.end }) is

ranges-grown : (old more : List ℕ) (ss : List ByteRange) → AreByteRanges old ss → map (byte_range_of (old ++ more)) ss ≡ map (byte_range_of old) ss
ranges-grown old more [] all = refl
ranges-grown old more (s ∷ ss) all =
    let here = byte_range_of-grown old more s (All-head (IsByteRange (length old)) s ss all) in
    let rest = ranges-grown old more ss (All-tail (IsByteRange (length old)) s ss all) in
    cc

AreByteRanges-grown : (old more : List ℕ) (ss : List ByteRange) → AreByteRanges old ss → AreByteRanges (old ++ more) ss
AreByteRanges-grown old more ss all = All-weaker (IsByteRange (length old)) (IsByteRange (length (old ++ more))) (λ s is. (is.0, omega (arith, length-append old more))) ss all

-- ---- what code points compose to

module _ (v : VersionData) where
  -- nothing is behind the last starter
  pub composes-end : (last_starter last : ℕ) (rest old new : List ℕ) → length rest < 1 → new ≡ old ++ encode_utf8 last_starter → Writes (ComposesOn v last_starter last rest) old new
  composes-end last_starter last [] old new none grown = record { list = last_starter ∷ []; grown = grown ∙ ap (λ l. old ++ l) (sym (append-nil (encode_utf8 last_starter))); is = refl }
  composes-end last_starter last (d ∷ ds) old new none grown = absurd (omega arith)

  -- the last starter is written, and the next one takes its place
  pub composes-starts : (last_starter last next : ℕ) (rest old now new : List ℕ) → 1 ≤ length rest → next ≡ get_or rest 0 next → class_of v next ≡ 0 → composite v last_starter next ≡ None → now ≡ old ++ encode_utf8 last_starter →
      Writes (ComposesOn v next 0 (slice_range rest 1 (length rest))) now new → Writes (ComposesOn v last_starter last rest) old new
  composes-starts last_starter last next [] old now new some here starter none grown later = absurd (omega arith)
  composes-starts last_starter last next (d ∷ ds) old now new some here starter none grown later =
      let behind : slice_range (d ∷ ds) 1 (length (d ∷ ds)) ≡ ds = take_all (length (d ∷ ds) - 1) ds (omega arith) in
      record {
        list = last_starter ∷ later.list;
        grown = later.grown ∙ ap (λ l. l ++ encode_utf8_all later.list) grown ∙ append_assoc old (encode_utf8 last_starter) (encode_utf8_all later.list);
        is = inr (
          later.list,
          ap (class_of v) (sym here) ∙ starter,
          ap (composite v last_starter) (sym here) ∙ none,
          refl,
          subst (λ l. ComposesOn v d 0 l later.list) behind (subst (λ k. ComposesOn v k 0 (slice_range (d ∷ ds) 1 (length (d ∷ ds))) later.list) here later.is),
        );
      }

-- ---- slot by slot

module _ (v : VersionData) (form : Form) where
  -- what was written into a text that was empty
  pub precomputed_form-written : (lent old bytes : List ℕ) → old ≡ [] → IsUtf8 bytes → Writes (Settles v form lent) old bytes → IsPrecomputedForm v form lent bytes
  precomputed_form-written lent old bytes none utf8 written =
      record { utf8 = utf8; is = inr (written.list, written.grown ∙ ap (λ l. l ++ encode_utf8_all written.list) none, written.is) }

  -- nothing is kept
  pub precomputed_form-none : (lent bytes : List ℕ) → bytes ≡ [] → IsPrecomputedForm v form lent bytes
  precomputed_form-none lent bytes none = record { utf8 = subst IsUtf8 (sym none) IsUtf8-nil; is = inl none }

  module _ (lents : List (List ℕ)) where
    pub precomputed_forms-more : (old new run : List ℕ) (ss : List ByteRange) (s : ByteRange) (count : ℕ) → ArePrecomputedSoFar v form lents old ss count → new ≡ old ++ run → IsByteRange (length new) s → byte_range_of new s ≡ run →
        IsPrecomputedForm v form (get_or lents count []) run → ArePrecomputedSoFar v form lents new (ss ++ s ∷ []) (count + 1)
    precomputed_forms-more old new run ss s count before grown is here more =
        let kept = map (byte_range_of old) ss in
        let long : length kept ≡ count = length-map ss (byte_range_of old) ∙ before.size in
        let all : map (byte_range_of new) (ss ++ s ∷ []) ≡ kept ++ run ∷ [] =
        map_push (byte_range_of new) ss s
        ∙ ap (λ l. map (byte_range_of l) ss ++ byte_range_of new s ∷ []) grown
        ∙ ap (λ l. l ++ byte_range_of new s ∷ []) (ranges-grown old run ss before.within)
        ∙ ap (λ l. kept ++ l ∷ []) here in
        let each : (slot : ℕ) → IsPrecomputedForm v form (get_or lents slot []) (get_or (kept ++ run ∷ []) slot []) =
        λ slot. elim (cases_lt slot count) [
          | inl less ↦ subst (IsPrecomputedForm v form (get_or lents slot [])) (sym (get_or_append_left kept (run ∷ []) [] slot (omega arith))) (before.precomputed_forms slot)
          | inr not_less ↦ elim (cases_lt count slot) [
            | inl past ↦ precomputed_form-none _ _ (get_or_past (kept ++ run ∷ []) slot [] (omega (arith, length-append kept (run ∷ []))))
            | inr last ↦
                let same : length kept ≡ slot = omega arith in
                subst (λ k. IsPrecomputedForm v form (get_or lents k []) (get_or (kept ++ run ∷ []) k [])) same
                (subst (λ l. IsPrecomputedForm v form (get_or lents (length kept) []) l) (sym (get_or-append_seam kept run [] [])) (subst (λ k. IsPrecomputedForm v form (get_or lents k []) run) (sym long) more))
          ]
        ] in
        record {
          within = All-push (IsByteRange (length new)) ss s (subst (λ l. AreByteRanges l ss) (sym grown) (AreByteRanges-grown old run ss before.within)) is;
          size = length-append ss (s ∷ []) ∙ ap (λ n. n + 1) before.size;
          precomputed_forms = subst (ArePrecomputedForms v form lents) (sym all) each;
        }

-- ---- what a table keeps of single code points under each form, and what it answers of it

pub each_form : (v : VersionData) (lists : FullLists) (s : PrecomputedTables) → ArePrecomputedForms v Nfd (of_kind false lists) s.nfd → ArePrecomputedForms v Nfc (of_kind false lists) s.nfc → ArePrecomputedForms v Nfkd (of_kind true lists) s.nfkd → ArePrecomputedForms v Nfkc (of_kind true lists) s.nfkc → ArePrecomputedTables v lists s
each_form v lists s nfd nfc nfkd nfkc Nfd = nfd
each_form v lists s nfd nfc nfkd nfkc Nfc = nfc
each_form v lists s nfd nfc nfkd nfkc Nfkd = nfkd
each_form v lists s nfd nfc nfkd nfkc Nfkc = nfkc

-- what has a form has a code point
settles_some : (v : VersionData) (b : Bool) (lent list : List ℕ) → MatchBool b (Composes v lent list) (NeverFalls (class_of v) lent × (list ≡ lent)) → 0 < length (encode_utf8_all list) → 0 < length lent
settles_some v true [] list none some = absurd none
settles_some v false [] list (rises, same) some = absurd (omega (arith, ap (λ l. length (encode_utf8_all l)) same))
settles_some v b (x ∷ xs) list settles some = omega arith

pub precomputed-read : (v u : VersionData) → u ≡ v → (lists : FullLists) (blocks : List ℕ) (all_properties : List Properties) (precomputed : PrecomputedTables) → ArePageTables u lists blocks all_properties precomputed → (form : Form) (c : ℕ) → c < 0x110000 →
    (w : Properties) → w ≡ get_or all_properties (property_place blocks c) no_properties → (bytes : List ℕ) (count : ℕ) → IsFront (get_or (kept_of form precomputed) w.fulls []) bytes count → IsPrecomputedOf v form c bytes count
precomputed-read v u same lists blocks all_properties precomputed are form c lt w at bytes count front =
    let properties : ArePropertiesOf u lists c w = subst (ArePropertiesOf u lists c) (sym at) (are.pages.each c lt) in
    let lent : get_or (of_kind (is_compat form) lists) w.fulls [] ≡ table_full u (is_compat form) c = properties.slot.lent (is_compat form) in
    let precomputed_form : IsPrecomputedForm u form (table_full u (is_compat form) c) (take count bytes) =
    subst (λ l. IsPrecomputedForm u form l (take count bytes)) lent (subst (IsPrecomputedForm u form (get_or (of_kind (is_compat form) lists) w.fulls [])) (sym front.is) (are.precomputed_is form w.fulls)) in
    let long : length (take count bytes) ≡ count = length-take-le count bytes front.fits in
    subst (λ x. IsPrecomputedOf x form c bytes count) same
    (elim precomputed_form.is [
      | inl none ↦ absurd (omega (arith, ap length none, long, front.some))
      | inr known ↦
          record {
            list = known.0;
            settles = known.2;
            some = settles_some u (composes form) (table_full u (is_compat form) c) known.0 known.2 (omega (arith, ap length known.1, long, front.some));
            fits = front.fits;
            utf8 = precomputed_form.utf8;
            is = known.1;
          }
    ])

-- ---- the same in relations

module _ (v : VersionData) (sound : IsSound v) where
  composes_on : (last_starter last : ℕ) (ds list : List ℕ) → ComposesOn v last_starter last ds list → public.ComposesOn v last_starter last ds list
  composes_on last_starter last [] list is = is
  composes_on last_starter last (d ∷ ds) list (inl (p, found, up, later)) = inl (p, composite-some v last_starter d p found, up, composes_on p (class_of v d) ds list later)
  composes_on last_starter last (d ∷ ds) list (inr (later, starter, none, same, is)) = inr (later, starter, (λ p. composite-none v sound last_starter d p none), same, composes_on d 0 ds later is)

  composes_of : (full list : List ℕ) → Composes v full list → public.Composes v full list
  composes_of [] list none = none
  composes_of (c ∷ cs) list (starter, is) = (starter, composes_on c 0 cs list is)

  settles_of : (b : Bool) (full list : List ℕ) → MatchBool b (Composes v full list) (NeverFalls (class_of v) full × (list ≡ full)) → MatchBool b (public.Composes v full list) (NeverFalls (class_of v) full × (list ≡ full))
  settles_of true full list is = composes_of full list is
  settles_of false full list is = is

  pub is_precomputed : (form : Form) (c : ℕ) (bytes : List ℕ) (count : ℕ) → IsPrecomputedOf v form c bytes count → public.IsPrecomputed v form c bytes count
  is_precomputed form c bytes count h =
      let full = table_full v (is_compat form) c in
      record {
        full = full;
        lent = IsLent-table_full v (is_compat form) c sound;
        some = h.some;
        list = h.list;
        settles = settles_of (composes form) full h.list h.settles;
        fits = h.fits;
        utf8 = h.utf8;
        is = h.is;
      }
