-- A code point whose form by itself is known.
use Rattle.std.proofs.Common.{Option, None, Some, ◌⊎◌, inl, inr, ◌≡◌, ℕ, ◌≤◌, Bool, true, false, List, [], ◌∷◌, ◌++◌, length, chars, MatchBool, IsUtf8, encode_utf8, flat_map, refl, sym, ap, subst, ◌∙◌, arith, append_assoc, append-nil, take}
use Rattle.std.specs.Option.{is_some}
use Rattle.np_forms.proofs.Words.{get_or_at, set_at, chars_past_char, IsUtf8-past_char, chars_from_encodes, IsUtf8-take, is_compat, composes, Form, and_place}
use Rattle.np_forms.proofs.Words.{pair_with_last, normal_form, IsComposedOf, IsFirstMade, IsFirstPrecomputed, BeginsAtBoundary, NeverFalls, IsSound}
use Rattle.np_forms.proofs.Words.{VersionData, class_of, entry_at, is_assigned, composite, full_of, IsQuickSpan, MayFollow, Walks, IsAssigned, IsNormalForm}
use Rattle.np_versions.proofs.TableLemmas.{full-none, lent-value, pair-value, Walks-front}
use Rattle.np_ucd.specs.Entries.{Entry}
use Rattle.np_versions.specs.Precomputed.{Composes, ComposesOn, IsPrecomputed}
use Rattle.np_versions.proofs.CompositeLemmas.{composite_from}
use Rattle.np_forms.specs.Parts.{IsEachPartStable}
use Rattle.np_forms.proofs.StreamLemmas.{is_ordered-never_falls}
use Rattle.np_forms.proofs.CopyLemmas.{parts-at, settled-is_form, cut_at-front, cut_boundary}
use Rattle.np_forms.proofs.OrderLemmas.{canonical_order-ordered}
use Rattle.np_forms.proofs.SegmentLemmas.{composed-joins, composed-start, composed-starts, folded-starts, made-form, pair-apart}
use Rattle.np_forms.proofs.SyllableLemmas.{lent_some}
use Rattle.np_forms.proofs.FormLemmas.{IsNormalForm-value}
use Rattle.np_forms.proofs.QuickSpanLemmas.{quick_span_form, walked_form}
use Rattle.np_forms.proofs.TextLemmas.{list_all-back, list_all-front}

cases_entry : (o : Option Entry) → (o ≡ None) ⊎ ((e : Entry) × (o ≡ Some e))
cases_entry None = inl refl
cases_entry (Some e) = inr (e, refl)

-- what was read is composed to a list, whatever stands in it last
record IsComposedTo (v : VersionData) (done list : List ℕ) : Type 0 where
  starter : Option ℕ
  kept : ℕ
  read : ℕ
  composed : IsComposedOf v done list starter kept read

module _ (v : VersionData) (sound : IsSound v) where
  -- ---- code points that compose one after the other

  -- the next one composes with the last starter
  held-joins : (done before : List ℕ) (held last d p : ℕ) → composite v held d ≡ Some p → (class_of v d ≡ 0) ⊎ (last ≤ class_of v d) →
      IsComposedOf v done (before ++ held ∷ []) (Some (length before)) 0 last → IsComposedOf v (done ++ d ∷ []) (before ++ p ∷ []) (Some (length before)) 0 (class_of v d)
  unfolding pair_with_last
  held-joins done before held last d p found up a =
      let q = length before in
      let list = before ++ held ∷ [] in
      let pair : pair_with_last v list (Some q) 0 d ≡ Some (q, p) = ap (λ x. and_place q (composite v x d)) (get_or_at before held [] 0 q refl) ∙ ap (and_place q) found in
      subst (λ l. IsComposedOf v (done ++ d ∷ []) l (Some q) 0 (class_of v d)) (set_at before held [] p q refl)
      (composed-joins v done list (Some q) 0 last d (class_of v d) refl up a q p pair)

  -- the next one is held in its place
  held-starts : (done before : List ℕ) (held last d : ℕ) → class_of v d ≡ 0 → composite v held d ≡ None →
      IsComposedOf v done (before ++ held ∷ []) (Some (length before)) 0 last → IsComposedOf v (done ++ d ∷ []) ((before ++ held ∷ []) ++ d ∷ []) (Some (length (before ++ held ∷ []))) 0 0
  held-starts done before held last d starter none a =
      let q = length before in
      let list = before ++ held ∷ [] in
      composed-starts v done list (Some q) 0 last d 0 (sym starter) (inl refl) a (list ++ d ∷ []) (length list) refl refl refl (pair-apart v list q 0 d held (get_or_at before held [] 0 q refl) none)

  held-composes : (done before : List ℕ) (held last : ℕ) (ds list : List ℕ) → IsComposedOf v done (before ++ held ∷ []) (Some (length before)) 0 last → ComposesOn v held last ds list → IsComposedTo v (done ++ ds) (before ++ list)
  held-composes done before held last [] list a is =
      record {
        starter = Some (length before);
        kept = 0;
        read = last;
        composed = subst (λ l. IsComposedOf v l (before ++ list) (Some (length before)) 0 last) (sym (append-nil done)) (subst (λ l. IsComposedOf v done (before ++ l) (Some (length before)) 0 last) (sym is) a);
      }
  held-composes done before held last (d ∷ ds) list a (inl (p, found, up, later)) =
      subst (λ l. IsComposedTo v l (before ++ list)) (append_assoc done (d ∷ []) ds)
      (held-composes (done ++ d ∷ []) before p (class_of v d) ds list (held-joins done before held last d p (composite_from v sound held d p found) up a) later)
  held-composes done before held last (d ∷ ds) list a (inr (later, starter, none, same, is)) =
      subst (λ l. IsComposedTo v l (before ++ list)) (append_assoc done (d ∷ []) ds)
      (subst (λ l. IsComposedTo v ((done ++ d ∷ []) ++ ds) l) (append_assoc before (held ∷ []) later ∙ ap (λ l. before ++ l) (sym same))
      (held-composes (done ++ d ∷ []) (before ++ held ∷ []) d 0 ds later (held-starts done before held last d starter (sym (pair-value v sound held d None tt none)) a) is))

  composes-composed : (lent list : List ℕ) → Composes v lent list → IsComposedTo v lent list
  composes-composed [] list none = absurd none
  composes-composed (c ∷ cs) list (starter, is) = held-composes (c ∷ []) [] c 0 cs list (folded-starts v [] c starter (composed-start v)) is

  module _ (form : Form) where
    -- ---- what a full decomposition settles to is the form

    settled-form : (b : Bool) (c : ℕ) (lent list : List ℕ) → b ≡ composes form → lent ≡ flat_map (full_of v (is_compat form)) (c ∷ []) → MatchBool b (Composes v lent list) (NeverFalls (class_of v) lent × (list ≡ lent)) →
        normal_form v form (c ∷ []) ≡ list
    settled-form true c lent list on full composes_to =
        let made = composes-composed lent list composes_to in
        sym (made-form v sound form (sym on) (c ∷ []) list made.starter made.kept made.read (subst (λ l. IsComposedOf v l list made.starter made.kept made.read) full made.composed))
    settled-form false c lent list off full (rises, same) =
        sym (settled-is_form v form (c ∷ []) lent list (is_compat form) false refl off full
        (same ∙ sym (canonical_order-ordered (class_of v) lent (is_ordered-never_falls (class_of v) lent rises))))

    -- it is assigned
    pub precomputed-assigned : (c : ℕ) (bytes : List ℕ) (count : ℕ) → IsPrecomputed v form c bytes count → is_assigned v c ≡ true
    unfolding is_assigned
    precomputed-assigned c bytes count precomputed =
        elim (cases_entry (entry_at v.entries c)) [
          | inl none ↦ absurd (omega (arith, precomputed.some, ap length (lent-value v (is_compat form) c precomputed.full sound precomputed.lent), ap length (full-none v (is_compat form) c none)))
          | inr some ↦ ap is_some some.1
        ]

    -- and a precomputed form is its form
    pub precomputed-form : (c : ℕ) (bytes : List ℕ) (count : ℕ) (precomputed : IsPrecomputed v form c bytes count) → normal_form v form (c ∷ []) ≡ precomputed.list
    precomputed-form c bytes count precomputed =
        let lent = lent-value v (is_compat form) c precomputed.full sound precomputed.lent in
        let full : precomputed.full ≡ flat_map (full_of v (is_compat form)) (c ∷ []) = lent_some v (is_compat form) c precomputed.full lent precomputed.some ∙ sym (append-nil (full_of v (is_compat form) c)) in
        settled-form (composes form) c precomputed.full precomputed.list refl full precomputed.settles

    pub first-precomputed : (text later : List ℕ) (c : ℕ) → IsUtf8 text → text ≡ encode_utf8 c ++ later → BeginsAtBoundary v form (chars later) → (bytes : List ℕ) (count : ℕ) → IsPrecomputed v form c bytes count → IsFirstPrecomputed v form text later bytes count
    first-precomputed text later c utf8 begins at bytes count precomputed =
        let made : IsFirstMade v form text later precomputed.list =
        record {
          end = record { front = encode_utf8 c; parts = begins; utf8 = IsUtf8-past_char text later c utf8 begins };
          made = ap (normal_form v form) (chars_past_char text later c utf8 begins) ∙ parts-at v sound form (c ∷ []) (chars later) at
              ∙ ap (λ l. l ++ normal_form v form (chars later)) (precomputed-form c bytes count precomputed);
        } in
        record { list = precomputed.list; made = made; fits = precomputed.fits; utf8 = precomputed.utf8; is = precomputed.is }

-- ---- what stands is its own form in each of its parts, and what a table spells is the form

-- ---- parts of a walk

record Walked (Step : Option ℕ → ℕ → ℕ → ℕ → Type 0) (cs : List ℕ) : Type 0 where
  before : Option ℕ
  last : ℕ
  end : ℕ
  walk : Walks Step before last cs end

walked_back : (Step : Option ℕ → ℕ → ℕ → ℕ → Type 0) (before : Option ℕ) (last : ℕ) (xs ys : List ℕ) (end : ℕ) → Walks Step before last (xs ++ ys) end → Walked Step ys
walked_back Step before last [] ys end walk = record { before = before; last = last; end = end; walk = walk }
walked_back Step before last (x ∷ xs) ys end walk = walked_back Step (Some x) walk.0 xs ys end walk.2

-- the code points at the front of a text that stands
pub stable_parts : (v : VersionData) (sound : IsSound v) (form : Form) (text : List ℕ) (n : ℕ) (h : IsQuickSpan v form text n) (front : List ℕ) → front ≡ take n text → IsUtf8 front → IsAssigned v (chars front) → IsEachPartStable v form (chars front)
stable_parts v sound form text n h front of_front utf8 all before part after e =
    let same : h.front ≡ chars front = chars_from_encodes h.front front utf8 (sym (of_front ∙ cut_at-front v form text n h)) in
    let behind = walked_back (MayFollow v form) None 0 before (part ++ after) h.end (subst (λ l. Walks (MayFollow v form) None 0 l h.end) (same ∙ e) h.walk) in
    let here = Walks-front (MayFollow v form) behind.before behind.last behind.end part after behind.walk in
    let rest = list_all-back (is_assigned v) before (part ++ after) (subst (IsAssigned v) e all) in
    (list_all-front (is_assigned v) part after rest, IsNormalForm-value v sound form part part (sym (walked_form v sound form behind.before behind.last part here.0 here.1)))

-- the whole of it is its own form
pub quick_span_front : (v : VersionData) (sound : IsSound v) (form : Form) (text : List ℕ) (n : ℕ) → IsUtf8 text → IsQuickSpan v form text n → IsNormalForm v form (chars (take n text)) (chars (take n text))
quick_span_front v sound form text n utf8 h =
    let same : h.front ≡ chars (take n text) = chars_from_encodes h.front (take n text) (IsUtf8-take text n utf8 (cut_boundary v form text n h)) (sym (cut_at-front v form text n h)) in
    subst (λ l. IsNormalForm v form l l) same (IsNormalForm-value v sound form h.front h.front (sym (quick_span_form v sound form h.front h.end h.walk)))

-- ---- precomputed forms

pub precomputed_is_form : (v : VersionData) (sound : IsSound v) (form : Form) (c : ℕ) (bytes : List ℕ) (count : ℕ) → IsPrecomputed v form c bytes count → IsNormalForm v form (c ∷ []) (chars (take count bytes))
precomputed_is_form v sound form c bytes count h =
    let same : h.list ≡ chars (take count bytes) = chars_from_encodes h.list (take count bytes) h.utf8 (sym h.is) in
    subst (IsNormalForm v form (c ∷ [])) same (IsNormalForm-value v sound form (c ∷ []) h.list (sym (precomputed-form v sound form c bytes count h)))
