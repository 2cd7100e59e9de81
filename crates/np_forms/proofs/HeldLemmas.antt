-- The state of a stream, which each code point carries on, and non-starters at the front of a text, which are held back.
use Rattle.std.proofs.Common.{◌≡◌, ℕ, ◌+◌, ◌<◌, ◌≤◌, ◌⊎◌, Bool, true, false, List, [], ◌∷◌, ◌++◌, length, flat_map, refl, sym, ap, subst, ◌∙◌, arith, inl, inr}
use Rattle.std.proofs.Common.{append_assoc, append-nil, Some, None, Option, ap₂, encode_utf8}
use Rattle.np_forms.proofs.Words.{and_from, and_parts, cases_lt, not-true, not_from_false, and_left, flat_map-append, list_all, is_compat, composes, Form}
use Rattle.np_forms.proofs.Words.{IsSound, VersionData, class_of, composite, full_of, IsNormalForm, is_non_starter, IsCutAtLastStarter, IsOrderedAndComposed}
use Rattle.np_forms.proofs.Words.{IsStreaming, TakesIn, canonical_order, compose, joined, Shape, no_starter, starter, IsHeld, Advances, decomposed, ended}
use Rattle.np_forms.proofs.Words.{normal_form, compose_after, map-append, AreClassed, CodeAndClass, codes_of, with_class, with_classes, IsFrontHeld, HoldsFront}
use Rattle.np_versions.proofs.MappingLemmas.{list_all-append, IsFullDecomposition-flat_map, full_decomposition-flat_map}
use Rattle.np_versions.proofs.CompositeLemmas.{composite_first, composite-some, composite-starter, cases_Option}
use Rattle.np_forms.proofs.OrderLemmas.{list_all-canonical_order, not_reorderable_rising, canonical_order-at_starter, canonical_order-nil, AreClassed-append}
use Rattle.np_forms.proofs.OrderLemmas.{AreClassed-with_classes, codes-append, codes-with_classes}
use Rattle.np_forms.proofs.ComposeLemmas.{is_starter-false, not_starter_from, compose-nil, compose-non_starters, joined-none, joined-blocked, joined-free}
use Rattle.np_forms.proofs.ComposeLemmas.{compose_after-nil, compose_after-joined, compose_after-starter, compose_after-kept, compose-starter}
use Rattle.np_forms.proofs.FormLemmas.{EndsAs-ended, ended_is, IsNormalForm-normal_form, ordered_form-canonical_order, IsOrderedForm-canonical_order}
use Rattle.np_forms.proofs.StreamLemmas.{compose_of_is, IsLastRun, last_after, non_starter_or_starter}
use Rattle.np_forms.proofs.TextLemmas.{IsRead-next}

module _ (v : VersionData) (sound : IsSound v) where
  -- ---- the last starter, which may be a composite already, and the non-starters after it, not yet in order

  abbrev ccc : ℕ → ℕ
  ccc = class_of v

  abbrev join : ℕ → ℕ → Option ℕ
  join = composite v

  abbrev order : List ℕ → List ℕ
  order = canonical_order ccc

  abbrev after : ℕ → List ℕ → List ℕ → List ℕ
  after = compose_after ccc join

  -- the starter and what was kept, once these non-starters are through
  record Settled (s : ℕ) (bs ms : List ℕ) : Type 0 where
    head : ℕ
    kept : List ℕ
    is : after s bs ms ≡ head ∷ kept
    goes_on : (zs : List ℕ) → after s bs (ms ++ zs) ≡ after head kept zs

  settled : (s : ℕ) (bs ms : List ℕ) → list_all (is_non_starter v) ms ≡ true → Settled s bs ms
  settled s bs [] non_starters = record { head = s; kept = bs; is = compose_after-nil ccc join s bs; goes_on = λ zs. refl }
  settled s bs (m ∷ ms) non_starters =
      let halves = and_parts (is_non_starter v m) (list_all (is_non_starter v) ms) non_starters in
      let non_starter = is_starter-false ccc m (not-true _ halves.0) in
      elim (cases_Option (joined ccc join s bs m)) [
        | inr some ↦
            let goes = λ (zs : List ℕ). compose_after-joined ccc join s bs m some.0 zs some.1 in
            let r = settled some.0 bs ms halves.1 in
            record { head = r.head; kept = r.kept; is = goes ms ∙ r.is; goes_on = λ zs. goes (ms ++ zs) ∙ r.goes_on zs }
        | inl none ↦
            let goes = λ (zs : List ℕ). compose_after-kept ccc join s bs m zs none non_starter in
            let r = settled s (bs ++ m ∷ []) ms halves.1 in
            record { head = r.head; kept = r.kept; is = goes ms ∙ r.is; goes_on = λ zs. goes (ms ++ zs) ∙ r.goes_on zs }
      ]

  -- a starter stands before the order of what follows
  pub order_starter : (s : ℕ) (zs : List ℕ) → class_of v s ≤ 0 → order (s ∷ zs) ≡ s ∷ order zs
  order_starter s zs of_s = canonical_order-at_starter ccc [] s zs of_s ∙ ap (λ l. l ++ s ∷ order zs) (canonical_order-nil ccc)

  -- so it does before non-starters and a further starter
  order_starters : (s : ℕ) (ms : List ℕ) (d : ℕ) (zs : List ℕ) → class_of v s ≤ 0 → class_of v d ≤ 0 → order ((s ∷ ms) ++ d ∷ zs) ≡ s ∷ (order ms ++ d ∷ order zs)
  order_starters s ms d zs of_s of_d = order_starter s (ms ++ d ∷ zs) of_s ∙ ap (λ l. s ∷ l) (canonical_order-at_starter ccc ms d zs of_d)

  composed_starter : (s : ℕ) (zs : List ℕ) → class_of v s ≤ 0 → compose ccc join (order (s ∷ zs)) ≡ after s [] (order zs)
  composed_starter s zs of_s = ap (compose ccc join) (order_starter s zs of_s) ∙ compose-starter ccc join s (order zs) of_s

  -- the next starter composes with the one held back, where no non-starter is left between
  push_joins : (s : ℕ) (ms : List ℕ) (head d p : ℕ) (zs : List ℕ) → class_of v s ≤ 0 → list_all (is_non_starter v) ms ≡ true → class_of v d ≤ 0 → after s [] (order ms) ≡ head ∷ [] → composite v head d ≡ Some p → compose ccc join (order ((s ∷ ms) ++ d ∷ zs)) ≡ compose ccc join (order (p ∷ zs))
  push_joins s ms head d p zs of_s non_starters of_d is both =
      let r = settled s [] (order ms) (list_all-canonical_order ccc (is_non_starter v) ms non_starters) in
      let same = sym r.is ∙ is in
      let heads : r.head ≡ head = cc in
      let nothing : r.kept ≡ [] = cc in
      ap (compose ccc join) (order_starters s ms d zs of_s of_d) ∙ compose-starter ccc join s (order ms ++ d ∷ order zs) of_s
      ∙ r.goes_on (d ∷ order zs) ∙ ap₂ (λ x l. after x l (d ∷ order zs)) heads nothing
      ∙ compose_after-joined ccc join head [] d p (order zs) (joined-free ccc join head [] d refl ∙ both)
      ∙ sym (composed_starter p zs (let e = composite-starter v sound head d p both in omega arith))

  -- else what was held back is ready
  push_parts : (s : ℕ) (ms : List ℕ) (d : ℕ) (zs : List ℕ) → class_of v s ≤ 0 → list_all (is_non_starter v) ms ≡ true → class_of v d ≤ 0 → ((head : ℕ) (kept : List ℕ) → after s [] (order ms) ≡ head ∷ kept → joined ccc join head kept d ≡ None) → compose ccc join (order ((s ∷ ms) ++ d ∷ zs)) ≡ compose ccc join (order (s ∷ ms)) ++ compose ccc join (order (d ∷ zs))
  push_parts s ms d zs of_s non_starters of_d apart =
      let r = settled s [] (order ms) (list_all-canonical_order ccc (is_non_starter v) ms non_starters) in
      ap (compose ccc join) (order_starters s ms d zs of_s of_d) ∙ compose-starter ccc join s (order ms ++ d ∷ order zs) of_s
      ∙ r.goes_on (d ∷ order zs) ∙ compose_after-starter ccc join r.head r.kept d (order zs) (apart r.head r.kept r.is) of_d
      ∙ ap₂ (λ l m. l ++ m) (sym (composed_starter s ms of_s ∙ r.is)) (sym (composed_starter d zs of_d))

  push_first : (ms : List ℕ) (d : ℕ) (zs : List ℕ) → list_all (is_non_starter v) ms ≡ true → class_of v d ≤ 0 → compose ccc join (order (ms ++ d ∷ zs)) ≡ order ms ++ compose ccc join (order (d ∷ zs))
  push_first ms d zs non_starters of_d =
      ap (compose ccc join) (canonical_order-at_starter ccc ms d zs of_d)
      ∙ compose-non_starters ccc join (order ms) (d ∷ order zs) (list_all-canonical_order ccc (is_non_starter v) ms non_starters)
      ∙ ap (λ l. order ms ++ compose ccc join l) (sym (order_starter d zs of_d))

  -- ---- what is held back

  shape_non_starter : (out ms pending : List ℕ) (d : ℕ) → Shape v out ms pending → Shape v out (ms ++ d ∷ []) (pending ++ d ∷ [])
  shape_non_starter out ms pending d (no_starter ns) = no_starter (ns ++ d ∷ [])
  shape_non_starter out ms pending d (starter before s ns low) = starter before s (ns ++ d ∷ []) low

  -- a non-starter is held back too
  pub held_non_starter : (e : Bool) (ds out pending : List ℕ) (d : ℕ) → 0 < class_of v d → IsHeld v e ds out pending → IsHeld v e (ds ++ d ∷ []) out (pending ++ d ∷ [])
  held_non_starter e ds out pending d non_starter h =
      record {
        front = h.front;
        non_starters = h.non_starters ++ d ∷ [];
        split = ap (λ l. l ++ d ∷ []) h.split ∙ append_assoc h.front h.non_starters (d ∷ []);
        all = list_all-append (is_non_starter v) h.non_starters (d ∷ []) h.all (and_from _ _ (not_from_false _ (not_starter_from (class_of v) d non_starter)) refl);
        shape = shape_non_starter out h.non_starters pending d h.shape;
        goes_on = λ zs.
            ap (λ l. ended v e (canonical_order (class_of v) l)) (append_assoc ds (d ∷ []) zs) ∙ h.goes_on (d ∷ zs)
            ∙ ap (λ l. out ++ ended v e (canonical_order (class_of v) l)) (sym (append_assoc pending (d ∷ []) zs));
      }

  -- non-starters alone are held back too
  held_all : (e : Bool) (ds out pending ms : List ℕ) → list_all (is_non_starter v) ms ≡ true → IsHeld v e ds out pending → IsHeld v e (ds ++ ms) out (pending ++ ms)
  held_all e ds out pending [] all h = subst (λ l. IsHeld v e l out (pending ++ [])) (sym (append-nil ds)) (subst (λ l. IsHeld v e ds out l) (sym (append-nil pending)) h)
  held_all e ds out pending (m ∷ ms) all h =
      let both = and_parts (is_non_starter v m) (list_all (is_non_starter v) ms) all in
      let next = held_all e (ds ++ m ∷ []) out (pending ++ m ∷ []) ms both.1 (held_non_starter e ds out pending m (is_starter-false (class_of v) m (not-true _ both.0)) h) in
      subst (λ l. IsHeld v e l out (pending ++ m ∷ ms)) (append_assoc ds (m ∷ []) ms)
      (subst (λ l. IsHeld v e ((ds ++ m ∷ []) ++ ms) out l) (append_assoc pending (m ∷ []) ms) next)

  -- a starter alone is held back
  held_alone : (e : Bool) (ds out pending later : List ℕ) (d p : ℕ) → class_of v p ≤ 0 → IsHeld v e ds out pending → ((zs : List ℕ) → out ++ ended v e (canonical_order (class_of v) (pending ++ d ∷ zs)) ≡ later ++ ended v e (canonical_order (class_of v) (p ∷ zs))) → IsHeld v e (ds ++ d ∷ []) later (p ∷ [])
  held_alone e ds out pending later d p low h goes =
      record {
        front = ds ++ d ∷ [];
        non_starters = [];
        split = sym (append-nil (ds ++ d ∷ []));
        all = refl;
        shape = starter later p [] low;
        goes_on = λ zs. ap (λ l. ended v e (canonical_order (class_of v) l)) (append_assoc ds (d ∷ []) zs) ∙ h.goes_on (d ∷ zs) ∙ goes zs;
      }

  -- nothing became ready
  pub Advances-kept : (e : Bool) (parts ready pending after : List ℕ) → ((ds out : List ℕ) → IsHeld v e ds out pending → IsHeld v e (ds ++ parts) out after) → Advances v e parts ready pending ready after
  Advances-kept e parts ready pending after carries =
      record {
        more = [];
        ready_is = sym (append-nil ready);
        carries = λ ds out h. subst (λ l. IsHeld v e (ds ++ parts) l after) (sym (append-nil out)) (carries ds out h);
      }

  pub Advances-start : (e : Bool) (ready pending : List ℕ) → Advances v e [] ready pending ready pending
  Advances-start e ready pending = Advances-kept e [] ready pending pending (λ ds out h. subst (λ l. IsHeld v e l out pending) (sym (append-nil ds)) h)

  pub Advances-non_starters : (e : Bool) (ready pending parts : List ℕ) → list_all (is_non_starter v) parts ≡ true → Advances v e parts ready pending ready (pending ++ parts)
  Advances-non_starters e ready pending parts all = Advances-kept e parts ready pending (pending ++ parts) (λ ds out h. held_all e ds out pending parts all h)

  pub Advances-next : (e : Bool) (parts new r₀ p₀ r₁ p₁ r₂ p₂ : List ℕ) → Advances v e parts r₀ p₀ r₁ p₁ → Advances v e new r₁ p₁ r₂ p₂ → Advances v e (parts ++ new) r₀ p₀ r₂ p₂
  Advances-next e parts new r₀ p₀ r₁ p₁ r₂ p₂ a b =
      record {
        more = a.more ++ b.more;
        ready_is = b.ready_is ∙ ap (λ l. l ++ b.more) a.ready_is ∙ append_assoc r₀ a.more b.more;
        carries = λ ds out h.
            subst (λ l. IsHeld v e l (out ++ (a.more ++ b.more)) p₂) (append_assoc ds parts new)
            (subst (λ l. IsHeld v e ((ds ++ parts) ++ new) l p₂) (append_assoc out a.more b.more) (b.carries (ds ++ parts) (out ++ a.more) (a.carries ds out h)));
      }

  few_held : (out ms pending : List ℕ) → Shape v out ms pending → length pending ≤ 1 + length ms
  few_held out ms pending (no_starter ns) = omega arith
  few_held out ms pending (starter before s ns low) = omega arith

  pub non_starters_ended : (e : Bool) (ms : List ℕ) → list_all (is_non_starter v) ms ≡ true → ended v e (canonical_order (class_of v) ms) ≡ canonical_order (class_of v) ms
  non_starters_ended false ms h = refl
  non_starters_ended true ms h =
      let sorted = list_all-canonical_order (class_of v) (is_non_starter v) ms h in
      compose_of_is v sound _ ∙ ap (compose (class_of v) (composite v)) (sym (append-nil _)) ∙ compose-non_starters (class_of v) (composite v) _ [] sorted
      ∙ ap (λ l. canonical_order (class_of v) ms ++ l) (compose-nil (class_of v) (composite v)) ∙ append-nil _

  starter_ended : (e : Bool) (s : ℕ) (ms : List ℕ) → class_of v s ≤ 0 → list_all (is_non_starter v) ms ≡ true → IsLastRun v sound (ended v e (canonical_order (class_of v) (s ∷ ms)))
  starter_ended false s ms low h =
      record { s = s; ms = canonical_order (class_of v) ms; split = order_starter s ms low; starter = omega arith; non_starters = list_all-canonical_order (class_of v) (is_non_starter v) ms h }
  starter_ended true s ms low h =
      let sorted = list_all-canonical_order (class_of v) (is_non_starter v) ms h in
      let e = compose_of_is v sound _ ∙ composed_starter s ms low in
      elim (last_after v sound s [] (canonical_order (class_of v) ms) low refl) [
        | inl whole ↦ subst (IsLastRun v sound) (sym e) whole
        | inr part ↦
            let low_first = part.starter in
            absurd (non_starter_or_starter v sound part.first part.front part.rest (omega arith) (ap (list_all (is_non_starter v)) (sym part.split) ∙ sorted))
      ]

  cut_held : (e : Bool) (out ms pending : List ℕ) → list_all (is_non_starter v) ms ≡ true → Shape v out ms pending → IsCutAtLastStarter v out (ended v e (canonical_order (class_of v) pending))
  cut_held e out ms pending all (no_starter ns) =
      inr (record { nothing = refl; non_starters = ap (list_all (is_non_starter v)) (non_starters_ended e ns all) ∙ list_all-canonical_order (class_of v) (is_non_starter v) ns all })
  cut_held e out ms pending all (starter before s ns low) =
      let r = starter_ended e s ns low all in inl (record { s = r.s; ms = r.ms; split = r.split; starter = r.starter; non_starters = r.non_starters })

  -- ---- the relation of the definitions

  ordered_value : (form : Form) (xs ys : List ℕ) → IsOrderedAndComposed v form xs ys → ys ≡ ended v (composes form) (canonical_order (class_of v) xs)
  ordered_value form xs ys h =
      ended_is v sound (composes form) h.ordered ys h.ends ∙ ap (ended v (composes form)) (ordered_form-canonical_order (class_of v) xs h.ordered h.orders)

  value_ordered : (form : Form) (xs : List ℕ) → IsOrderedAndComposed v form xs (ended v (composes form) (canonical_order (class_of v) xs))
  value_ordered form xs =
      record { ordered = canonical_order (class_of v) xs; orders = IsOrderedForm-canonical_order (class_of v) xs; ends = EndsAs-ended v sound (composes form) (canonical_order (class_of v) xs) }

  shape_behind : (out ms pending : List ℕ) → Shape v out ms pending → ((out ≡ []) × (pending ≡ ms)) ⊎ ((s : ℕ) × (class_of v s ≡ 0) × (pending ≡ s ∷ ms))
  shape_behind out ms pending (no_starter ns) = inl (refl, refl)
  shape_behind out ms pending (starter before s ns low) = inr (s, omega arith, refl)

  behind_shape : (out ms pending : List ℕ) → ((out ≡ []) × (pending ≡ ms)) ⊎ ((s : ℕ) × (class_of v s ≡ 0) × (pending ≡ s ∷ ms)) → Shape v out ms pending
  behind_shape out ms pending (inl none) = subst (λ l. Shape v l ms pending) (sym none.0) (subst (λ l. Shape v [] ms l) (sym none.1) (no_starter ms))
  behind_shape out ms pending (inr some) = subst (λ l. Shape v out ms l) (sym some.2) (starter out some.0 ms (let z = some.1 in omega arith))

  -- the state of the stream that has read the whole decomposition
  pub IsStreaming-held : (form : Form) (fed out pending : List ℕ) → IsHeld v (composes form) (flat_map (full_of v (is_compat form)) fed) out pending → IsStreaming v form fed out pending
  unfolding normal_form decomposed
  IsStreaming-held form fed out pending h =
      let ds = flat_map (full_of v (is_compat form)) fed in
      let e = composes form in
      let whole : normal_form v form fed ≡ out ++ ended v e (canonical_order (class_of v) pending) =
      ap (λ l. ended v e (canonical_order (class_of v) l)) (sym (append-nil ds)) ∙ h.goes_on []
      ∙ ap (λ l. out ++ ended v e (canonical_order (class_of v) l)) (append-nil pending) in
      record {
        full = ds;
        decomposes = IsFullDecomposition-flat_map v (is_compat form) sound.shallow fed;
        held_back = record { front = h.front; run = h.non_starters; split = h.split; non_starters = h.all; behind = shape_behind out h.non_starters pending h.shape };
        goes_on = λ more ys of_ys.
            subst (IsOrderedAndComposed v form (ds ++ more)) (h.goes_on more ∙ ap (λ l. out ++ l) (sym (ordered_value form (pending ++ more) ys of_ys))) (value_ordered form (ds ++ more));
        held = ended v e (canonical_order (class_of v) pending);
        holds = value_ordered form pending;
        whole = subst (IsNormalForm v form fed) whole (IsNormalForm-normal_form v sound form fed);
        cut = cut_held e out h.non_starters pending h.all h.shape;
        few = λ n short.
            elim (cases_lt n (length h.non_starters)) [
              | inl long ↦ absurd (short (record { before = h.front; run = h.non_starters; after = []; split = h.split ∙ ap (λ l. h.front ++ l) (sym (append-nil h.non_starters)); non_starters = h.all; long = long }))
              | inr fits ↦ (let most = few_held out h.non_starters pending h.shape in omega arith)
            ];
      }

  pub held_streaming : (form : Form) (fed out pending : List ℕ) → IsStreaming v form fed out pending → IsHeld v (composes form) (flat_map (full_of v (is_compat form)) fed) out pending
  held_streaming form fed out pending s =
      let ds = flat_map (full_of v (is_compat form)) fed in
      let e = composes form in
      let same : s.full ≡ ds = full_decomposition-flat_map v (is_compat form) sound.shallow fed s.full s.decomposes in
      record {
        front = s.held_back.front;
        non_starters = s.held_back.run;
        split = sym same ∙ s.held_back.split;
        all = s.held_back.non_starters;
        shape = behind_shape out s.held_back.run pending s.held_back.behind;
        goes_on = λ zs.
            ap (λ l. ended v e (canonical_order (class_of v) (l ++ zs))) (sym same)
            ∙ sym (ordered_value form (s.full ++ zs) _ (s.goes_on zs _ (value_ordered form (pending ++ zs))));
      }

  pub IsStreaming-start : (form : Form) → IsStreaming v form [] [] []
  IsStreaming-start form = IsStreaming-held form [] [] [] (record { front = []; non_starters = []; split = refl; all = refl; shape = no_starter []; goes_on = λ zs. refl })

  -- what more code points of the text do
  streams_on : (form : Form) (compat e : Bool) (cs parts ready pending ready_after pending_after : List ℕ) → compat ≡ is_compat form → e ≡ composes form → parts ≡ flat_map (full_of v compat) cs → (a : Advances v e parts ready pending ready_after pending_after) → (fed out : List ℕ) → IsStreaming v form fed out pending → IsStreaming v form (fed ++ cs) (out ++ a.more) pending_after
  streams_on form compat e cs parts ready pending ready_after pending_after kind comp of_cs a fed out s =
      let each = full_of v (is_compat form) in
      let h = subst (λ b. IsHeld v b (flat_map each fed) out pending) (sym comp) (held_streaming form fed out pending s) in
      let more : flat_map each fed ++ parts ≡ flat_map each (fed ++ cs) =
      ap (λ l. flat_map each fed ++ l) (of_cs ∙ ap (λ b. flat_map (full_of v b) cs) kind) ∙ sym (flat_map-append each fed cs) in
      IsStreaming-held form (fed ++ cs) (out ++ a.more) pending_after
      (subst (λ l. IsHeld v (composes form) l (out ++ a.more) pending_after) more
      (subst (λ b. IsHeld v b (flat_map each fed ++ parts) (out ++ a.more) pending_after) comp (a.carries (flat_map each fed) out h)))

  pub TakesIn-advances : (form : Form) (c : ℕ) {compat e : Bool} {parts ready pending ready_after pending_after : List ℕ} → compat ≡ is_compat form → e ≡ composes form → parts ≡ full_of v compat c → Advances v e parts ready pending ready_after pending_after
      → TakesIn (record { version = v; form = form; ready = ready; pending = pending }) (record { version = v; form = form; ready = ready_after; pending = pending_after }) c
  TakesIn-advances form c {compat} {e} {parts} {ready} {pending} {ready_after} {pending_after} kind comp of_c a =
      record {
        more = a.more;
        ready = a.ready_is;
        version = refl;
        form = refl;
        carries = streams_on form compat e (c ∷ []) parts ready pending ready_after pending_after kind comp (of_c ∙ sym (append-nil (full_of v compat c))) a;
      }

  -- a code point of non-starters alone is held back
  pub TakesIn-non_starters : (form : Form) (c : ℕ) {compat : Bool} {parts ready pending pending_after : List ℕ} → compat ≡ is_compat form → parts ≡ full_of v compat c → list_all (is_non_starter v) parts ≡ true → pending ++ parts ≡ pending_after
      → TakesIn (record { version = v; form = form; ready = ready; pending = pending }) (record { version = v; form = form; ready = ready; pending = pending_after }) c
  TakesIn-non_starters form c {compat} {parts} {ready} {pending} {pending_after} kind of_c all grown =
      TakesIn-advances form c kind refl of_c (subst (Advances v (composes form) parts ready pending ready) grown (Advances-non_starters (composes form) ready pending parts all))

  -- non-starters that are their own full decompositions are held back
  pub holds_non_starters : (form : Form) (compat : Bool) (cs pending fed out : List ℕ) → compat ≡ is_compat form → flat_map (full_of v compat) cs ≡ cs → list_all (is_non_starter v) cs ≡ true → IsStreaming v form fed out pending → IsStreaming v form (fed ++ cs) out (pending ++ cs)
  unfolding Advances-non_starters Advances-kept
  holds_non_starters form compat cs pending fed out kind own all s =
      let held = Advances-non_starters (composes form) [] pending cs all in
      subst (λ l. IsStreaming v form (fed ++ cs) l (pending ++ cs)) (append-nil out) (streams_on form compat (composes form) cs cs [] pending [] (pending ++ cs) kind refl (sym own) held fed out s)

  -- what the end of the text does
  pub whole_streams : (form : Form) (e : Bool) (pending fed out : List ℕ) → e ≡ composes form → IsStreaming v form fed out pending → IsNormalForm v form fed (out ++ ended v e (canonical_order (class_of v) pending))
  whole_streams form e pending fed out comp s =
      subst (λ l. IsNormalForm v form fed (out ++ l))
      (ordered_value form pending s.held s.holds ∙ ap (λ b. ended v b (canonical_order (class_of v) pending)) (sym comp)) s.whole

  -- ---- a stream's state, where a starter comes: it composes with the starter that is held back, or what is held back is ready

  joins_by : (out ms pending : List ℕ) (head d p : ℕ) → Shape v out ms pending → list_all (is_non_starter v) ms ≡ true → class_of v d ≤ 0 → ended v true (order pending) ≡ head ∷ [] → composite v head d ≡ Some p → (zs : List ℕ) → ended v true (order (pending ++ d ∷ zs)) ≡ ended v true (order (p ∷ zs))
  joins_by out ms pending head d p (no_starter ns) all low is both zs =
      let one : list_all (is_non_starter v) (head ∷ []) ≡ true =
      sym (ap (list_all (is_non_starter v)) (sym (non_starters_ended true ns all) ∙ is)) ∙ list_all-canonical_order ccc (is_non_starter v) ns all in
      let first = composite_first v head d p (composite-some v head d p both) in
      absurd (non_starter_or_starter v sound head [] [] (omega arith) one)
  joins_by out ms pending head d p (starter before s ns of_s) all low is both zs =
      compose_of_is v sound _ ∙ push_joins s ns head d p zs of_s all low (sym (composed_starter s ns of_s) ∙ sym (compose_of_is v sound _) ∙ is) both
      ∙ sym (compose_of_is v sound _)

  -- a starter is blocked by whatever was kept
  blocked_starter : (head : ℕ) (kept : List ℕ) (d : ℕ) → class_of v d ≤ 0 → (kept ≡ [] → composite v head d ≡ None) → joined ccc (composite v) head kept d ≡ None
  blocked_starter head [] d low apart = joined-none ccc (composite v) head [] d (apart refl)
  blocked_starter head (b ∷ bs) d low apart = joined-blocked ccc (composite v) head (b ∷ bs) d (and_left _ _ (not_reorderable_rising ccc d b (omega arith)))

  parts_by : (e : Bool) (out ms pending : List ℕ) (d : ℕ) → Shape v out ms pending → list_all (is_non_starter v) ms ≡ true → class_of v d ≤ 0 → ((head : ℕ) → e ≡ true → ended v true (order pending) ≡ head ∷ [] → composite v head d ≡ None) → (zs : List ℕ) → ended v e (order (pending ++ d ∷ zs)) ≡ ended v e (order pending) ++ ended v e (order (d ∷ zs))
  parts_by false out ms pending d shape all low apart zs = canonical_order-at_starter ccc pending d zs low ∙ ap (λ l. order pending ++ l) (sym (order_starter d zs low))
  parts_by true out ms pending d (no_starter ns) all low apart zs =
      compose_of_is v sound _ ∙ push_first ns d zs all low
      ∙ ap (λ l. l ++ compose ccc (composite v) (order (d ∷ zs))) (sym (non_starters_ended true ns all)) ∙ ap (λ l. ended v true (order ns) ++ l) (sym (compose_of_is v sound _))
  parts_by true out ms pending d (starter before s ns of_s) all low apart zs =
      compose_of_is v sound _
      ∙ push_parts s ns d zs of_s all low
      (λ head kept is. blocked_starter head kept d low
      (λ none. apart head refl (compose_of_is v sound _ ∙ composed_starter s ns of_s ∙ is ∙ ap (λ l. head ∷ l) none)))
      ∙ ap (λ l. l ++ compose ccc (composite v) (order (d ∷ zs))) (sym (compose_of_is v sound _)) ∙ ap (λ l. ended v true (order (s ∷ ns)) ++ l) (sym (compose_of_is v sound _))

  -- the starter composes with the one that is held back, where no non-starter is left between
  pub held_joins : (ds out pending : List ℕ) (head d p : ℕ) → class_of v d ≤ 0 → IsHeld v true ds out pending → ended v true (order pending) ≡ head ∷ [] → composite v head d ≡ Some p → IsHeld v true (ds ++ d ∷ []) out (p ∷ [])
  held_joins ds out pending head d p low h is both =
      held_alone true ds out pending out d p (let e = composite-starter v sound head d p both in omega arith) h
      (λ zs. ap (λ l. out ++ l) (joins_by out h.non_starters pending head d p h.shape h.all low is both zs))

  -- else what is held back is ready
  pub held_parts : (e : Bool) (ds out pending : List ℕ) (d : ℕ) → class_of v d ≤ 0 → IsHeld v e ds out pending → ((head : ℕ) → e ≡ true → ended v true (order pending) ≡ head ∷ [] → composite v head d ≡ None) → IsHeld v e (ds ++ d ∷ []) (out ++ ended v e (order pending)) (d ∷ [])
  held_parts e ds out pending d low h apart =
      held_alone e ds out pending (out ++ ended v e (order pending)) d d low h
      (λ zs. ap (λ l. out ++ l) (parts_by e out h.non_starters pending d h.shape h.all low apart zs) ∙ sym (append_assoc out _ _))

-- ---- non-starters at the front of a text, which are held back

module _ (v : VersionData) (compat : Bool) (text : List ℕ) (old : List CodeAndClass) where
  pub IsFrontHeld-next : (rest later : List ℕ) (c : ℕ) (now new : List CodeAndClass) → rest ≡ encode_utf8 c ++ later → full_of v compat c ≡ c ∷ [] → is_non_starter v c ≡ true → new ≡ now ++ with_class v c ∷ [] → IsFrontHeld v compat text rest old now → IsFrontHeld v compat text later old new
  IsFrontHeld-next rest later c now new begins own non_starter grown a =
      record {
        front = a.front ++ c ∷ [];
        reads = IsRead-next text rest c later a.front begins a.reads;
        own = flat_map-append (full_of v compat) a.front (c ∷ []) ∙ ap₂ (λ l m. l ++ m) a.own (append-nil (full_of v compat c) ∙ own);
        all = list_all-append (is_non_starter v) a.front (c ∷ []) a.all (and_from _ _ non_starter refl);
        held = grown ∙ ap (λ l. l ++ with_class v c ∷ []) a.held ∙ append_assoc old (with_classes v a.front) (with_class v c ∷ [])
            ∙ ap (λ l. old ++ l) (sym (map-append (with_class v) a.front (c ∷ [])));
      }

module _ (v : VersionData) (old new : List CodeAndClass) where
  -- they stand beside their classes, as what was held back before
  pub classed-behind : (front : List ℕ) → new ≡ old ++ with_classes v front → AreClassed v old → AreClassed v new
  classed-behind front held classed = subst (AreClassed v) (sym held) (AreClassed-append v old (with_classes v front) classed (AreClassed-with_classes v front))

  -- what a stream is after that
  pub HoldsFront-held : (sound : IsSound v) (form : Form) (compat : Bool) (text rest ready : List ℕ) → compat ≡ is_compat form → IsFrontHeld v compat text rest old new
      → HoldsFront (record { version = v; form = form; ready = ready; pending = codes_of old }) (record { version = v; form = form; ready = ready; pending = codes_of new }) text rest
  HoldsFront-held sound form compat text rest ready kind a =
      let grown : codes_of old ++ a.front ≡ codes_of new = sym (ap codes_of a.held ∙ codes-append old (with_classes v a.front) ∙ ap (λ l. codes_of old ++ l) (codes-with_classes v a.front)) in
      record {
        front = a.front;
        reads = a.reads;
        version = refl;
        form = refl;
        ready = refl;
        carries = λ fed out s. subst (IsStreaming v form (fed ++ a.front) out) grown (holds_non_starters v sound form compat a.front (codes_of old) fed out kind a.own a.all s);
      }

-- what the checks of functions cite
pub ruleset front_answers = (HoldsFront-held, classed-behind)
