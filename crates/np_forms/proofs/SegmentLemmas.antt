-- Segments that are composed code point by code point.
use Rattle.std.proofs.Common.{◌≡◌, ℕ, ◌≤◌, ◌⊎◌, Bool, true, List, [], ◌∷◌, ◌++◌, ◌==◌, ◌||◌, nat_lt, length, get_or, set, chars, IsUtf8, encode_utf8, flat_map, Option, Some, None, refl, sym, ap, ap₂, subst, ◌∙◌, inl, inr, append_assoc, append-nil, false, encode_utf8_all, arith, ◌<◌, length-append}
use Rattle.np_forms.proofs.Words.{cases_Bool, cond-false, cond-true, flat_map-append, map-append, is_compat, composes, Form, is_ordered, IsComposing}
use Rattle.np_forms.proofs.Words.{and_place, pair_with_last, compose_of, canonical_order, CodeAndClass, with_class, with_classes, ended, normal_form}
use Rattle.np_forms.proofs.Words.{decomposed, IsComposedOf, IsDecomposedUpTo, IsFirstMade, IsFullUpTo, Rises, BeginsAtBoundary, IsSound, VersionData}
use Rattle.np_forms.proofs.Words.{class_of, composite, full_of, encodes-append, AppendsForm, IsCopied, IsEndOf}
use Rattle.np_forms.proofs.TextLemmas.{IsRead-both, IsRead-start, IsRead-next, IsRead-end}
use Rattle.np_forms.proofs.ComposerLemmas.{push_joins, push_starts, IsComposing-start, IsComposing-end}
use Rattle.np_forms.proofs.CopyLemmas.{parts-at, settled-is_form}
use Rattle.np_forms.proofs.OrderLemmas.{canonical_order-ordered, canonical_order-behind, is_ordered-canonical_order, is_ordered-cons, is_ordered-nil, is_ordered-one, is_ordered-parts, is_reorderable-false, not_reorderable_rising, not_reorderable_starter}

-- ---- classes that rise

module _ (ccc : ℕ → ℕ) where
  -- they hold no reorderable pair
  pub is_ordered-rises : (last : ℕ) (xs : List ℕ) → Rises ccc last xs → is_ordered ccc xs ≡ true
  is_ordered-rises last [] h = is_ordered-nil ccc
  is_ordered-rises last (a ∷ []) h = is_ordered-one ccc a
  is_ordered-rises last (a ∷ b ∷ cs) h =
      is_ordered-cons ccc a b cs (elim h.1.0 [ inl starter ↦ not_reorderable_starter ccc a b (omega arith) | inr rises ↦ not_reorderable_rising ccc a b rises ])
      (is_ordered-rises (ccc a) (b ∷ cs) h.1)

  rises-behind : (a : ℕ) (cs : List ℕ) → is_ordered ccc (a ∷ cs) ≡ true → Rises ccc (ccc a) cs
  rises-behind a [] h = tt
  rises-behind a (b ∷ cs) h =
      let parts = is_ordered-parts ccc a b cs h in
      (elim (is_reorderable-false ccc a b parts.0) [ inl low ↦ inl (omega arith) | inr up ↦ inr up ], rises-behind b cs parts.1)

  rises-ordered : (cs : List ℕ) → is_ordered ccc cs ≡ true → Rises ccc 0 cs
  rises-ordered [] h = tt
  rises-ordered (a ∷ cs) h = (inr (omega arith), rises-behind a cs h)

  -- nothing moves into a list
  abbrev pub IsClosed : List ℕ → Type 0
  IsClosed xs = (later : List ℕ) → Rises ccc 0 later → Rises ccc 0 (xs ++ later)

  pub closed-starter : (s : ℕ) (xs : List ℕ) → ccc s ≡ 0 → IsClosed xs → IsClosed (s ∷ xs)
  closed-starter s xs starter closed later rises = (inl starter, subst (λ k. Rises ccc k (xs ++ later)) (sym starter) (closed later rises))

  canonical_order-closed : (xs later : List ℕ) → IsClosed xs → canonical_order ccc (xs ++ later) ≡ xs ++ canonical_order ccc later
  canonical_order-closed xs later closed =
      let made = canonical_order ccc later in
      let ordered = is_ordered-canonical_order ccc later in
      canonical_order-behind ccc xs later made (sym (canonical_order-ordered ccc made ordered))
      ∙ canonical_order-ordered ccc (xs ++ made) (is_ordered-rises 0 (xs ++ made) (closed made (rises-ordered made ordered)))

-- ---- the form of what is decomposed already

module _ (v : VersionData) (sound : IsSound v) (form : Form) (plain : composes form ≡ false) where
  form-decomposes : (xs : List ℕ) → normal_form v form xs ≡ canonical_order (class_of v) (flat_map (full_of v (is_compat form)) xs)
  unfolding normal_form decomposed
  form-decomposes xs = ap (λ b. ended v b (canonical_order (class_of v) (flat_map (full_of v (is_compat form)) xs))) plain

  -- what the front decomposes to stands before everything else
  pub form-closed : (xs made ys : List ℕ) → flat_map (full_of v (is_compat form)) xs ≡ made → IsClosed (class_of v) made → normal_form v form (xs ++ ys) ≡ made ++ normal_form v form ys
  form-closed xs made ys full closed =
      let f = full_of v (is_compat form) in
      form-decomposes (xs ++ ys) ∙ ap (canonical_order (class_of v)) (flat_map-append f xs ys ∙ ap (λ l. l ++ flat_map f ys) full)
      ∙ canonical_order-closed (class_of v) made (flat_map f ys) closed ∙ ap (λ l. made ++ l) (sym (form-decomposes ys))

-- ---- one front behind another

-- a text is its own end
pub end-itself : (text : List ℕ) → IsUtf8 text → IsEndOf text text
end-itself text utf8 = IsRead-end text text [] (IsRead-start text utf8)

-- what is shorter than the end of a text is shorter than the text
pub shorter-end : (text end later : List ℕ) → IsEndOf text end → length later < length end → length later < length text
shorter-end text end later of_text shorter = omega (arith, shorter, ap length of_text.parts, length-append of_text.front end)

module _ (v : VersionData) (form : Form) where
  -- nothing is written yet
  pub goes-start : (text old : List ℕ) → IsUtf8 text → AppendsForm v form text text old old
  goes-start text old utf8 = record { end = end-itself text utf8; written = refl }

  pub goes-both : (text middle rest old between new : List ℕ) → AppendsForm v form text middle old between → AppendsForm v form middle rest between new → AppendsForm v form text rest old new
  goes-both text middle rest old between new one two =
      record {
        end = record {
          front = one.end.front ++ two.end.front;
          parts = one.end.parts ∙ ap (λ l. one.end.front ++ l) two.end.parts ∙ sym (append_assoc one.end.front two.end.front rest);
          utf8 = two.end.utf8;
        };
        written = two.written ∙ one.written;
      }

  -- a front that is its own form
  pub goes-copied : (text stays behind old new : List ℕ) → IsCopied v form text stays behind → new ≡ old ++ stays → AppendsForm v form text behind old new
  goes-copied text stays behind old new cut push =
      let after = encode_utf8_all (normal_form v form (chars behind)) in
      record {
        end = record { front = stays; parts = cut.parts; utf8 = cut.utf8 };
        written = ap (λ l. l ++ after) push ∙ append_assoc old stays after ∙ ap (λ l. old ++ l) (sym cut.copied);
      }

  -- a front whose form is at hand
  pub goes-made : (text later made old new : List ℕ) → IsFirstMade v form text later made → new ≡ old ++ encode_utf8_all made → AppendsForm v form text later old new
  goes-made text later made old new first push =
      let after = normal_form v form (chars later) in
      record {
        end = first.end;
        written = ap (λ l. l ++ encode_utf8_all after) push ∙ append_assoc old (encode_utf8_all made) (encode_utf8_all after)
            ∙ ap (λ l. old ++ l) (sym (encodes-append made after) ∙ ap encode_utf8_all (sym first.made));
      }

module _ (v : VersionData) where
  abbrev ccc : ℕ → ℕ
  ccc = class_of v

  pub composed-start : IsComposedOf v [] [] None 0 0
  composed-start = record { rises = λ later h. h; composing = λ rest h. IsComposing-start v rest h }

  -- ---- one more code point

  module _ (done list : List ℕ) (starter : Option ℕ) (kept read d class : ℕ) (is : class ≡ ccc d) (up : (class ≡ 0) ⊎ (read ≤ class)) (a : IsComposedOf v done list starter kept read) where
    one_more : (made : List ℕ) (starter₂ : Option ℕ) (kept₂ : ℕ) → ((whole rest : List ℕ) → IsComposing v whole list starter kept (d ∷ rest) → IsComposing v whole made starter₂ kept₂ rest) → IsComposedOf v (done ++ d ∷ []) made starter₂ kept₂ (ccc d)
    one_more made starter₂ kept₂ step =
        record {
          rises = λ later h. subst (Rises ccc 0) (sym (append_assoc done (d ∷ []) later)) (a.rises (d ∷ later) (subst (λ k. (k ≡ 0) ⊎ (read ≤ k)) is up, h));
          composing = λ rest h.
              let e = append_assoc done (d ∷ []) rest in
              subst (λ w. IsComposing v w made starter₂ kept₂ rest) (sym e) (step (done ++ d ∷ rest) rest (a.composing (d ∷ rest) (subst (λ w. is_ordered ccc w ≡ true) e h)));
        }

    pub composed-joins : (q p : ℕ) → pair_with_last v list starter kept d ≡ Some (q, p) → IsComposedOf v (done ++ d ∷ []) (set list q p) starter kept class
    composed-joins q p found =
        subst (λ k. IsComposedOf v (done ++ d ∷ []) (set list q p) starter kept k) (sym is) (one_more (set list q p) starter kept (λ whole rest h. push_joins v whole list starter kept d q p rest found h))

    pub composed-starts : (made : List ℕ) (place : ℕ) → class ≡ 0 → made ≡ list ++ d ∷ [] → place ≡ length list → pair_with_last v list starter kept d ≡ None → IsComposedOf v (done ++ d ∷ []) made (Some place) class class
    composed-starts made place zero more at none =
        let now = list ++ d ∷ [] in
        let step = one_more now (Some (length list)) 0 (λ whole rest h. push_starts v whole list starter kept d rest none (sym is ∙ zero) h) in
        subst (λ l. IsComposedOf v (done ++ d ∷ []) l (Some place) class class) (sym more)
        (subst (λ n. IsComposedOf v (done ++ d ∷ []) now (Some n) class class) (sym at)
        (subst (λ k. IsComposedOf v (done ++ d ∷ []) now (Some (length list)) k class) (sym zero)
        (subst (λ k. IsComposedOf v (done ++ d ∷ []) now (Some (length list)) 0 k) (sym is) step)))

  -- ---- a single code point

  pub folded-starts : (done : List ℕ) (c : ℕ) → class_of v c ≡ 0 → IsComposedOf v done [] None 0 0 → IsComposedOf v (done ++ c ∷ []) (c ∷ []) (Some 0) 0 0
  unfolding pair_with_last
  folded-starts done c zero a = composed-starts done [] None 0 0 c 0 (sym zero) (inl refl) a (c ∷ []) 0 refl refl refl refl

  -- a pair without a composite
  pub pair-apart : (list : List ℕ) (q last d s : ℕ) → get_or list q 0 ≡ s → composite v s d ≡ None → pair_with_last v list (Some q) last d ≡ None
  unfolding pair_with_last
  pair-apart list q last d s is none =
      let nothing : and_place q (composite v (get_or list q 0) d) ≡ None = ap (λ x. and_place q (composite v x d)) is ∙ ap (and_place q) none in
      elim (cases_Bool (last == 0 || nat_lt last (ccc d))) [ inl free ↦ cond-true _ _ _ free ∙ nothing | inr blocked ↦ cond-false _ _ _ blocked ]

  -- ---- the form of what was read

  module _ (sound : IsSound v) (form : Form) where
    abbrev full : ℕ → List ℕ
    full = full_of v (is_compat form)

    pub made-form : composes form ≡ true → (xs list : List ℕ) (starter : Option ℕ) (kept read : ℕ) → IsComposedOf v (flat_map full xs) list starter kept read → list ≡ normal_form v form xs
    unfolding compose_of
    made-form on xs list starter kept read a =
        let done = flat_map full xs in
        let whole = append-nil done in
        let ordered : is_ordered ccc done ≡ true = is_ordered-rises ccc 0 done (subst (Rises ccc 0) whole (a.rises [] tt)) in
        let made : list ≡ compose_of v done =
        IsComposing-end v (done ++ []) list starter kept (a.composing [] (ap (is_ordered ccc) whole ∙ ordered)) ∙ ap (compose_of v) whole in
        settled-is_form v form xs done list (is_compat form) true refl (sym on) refl (made ∙ ap (compose_of v) (sym (canonical_order-ordered ccc done ordered)))

    -- ---- a full decomposition of a few code points

    -- the first code point of a text was read
    pub full-first : (text later : List ℕ) (c d : ℕ) → IsUtf8 text → text ≡ encode_utf8 c ++ later → full c ≡ d ∷ [] → IsFullUpTo v form text later (d ∷ [])
    full-first text later c d utf8 begins single =
        record { front = c ∷ []; reads = IsRead-next text text c later [] begins (IsRead-start text utf8); is = append-nil (full c) ∙ single }

    -- one front behind another
    pub full-both : (text middle rest one two : List ℕ) → IsFullUpTo v form text middle one → IsFullUpTo v form middle rest two → IsFullUpTo v form text rest (one ++ two)
    full-both text middle rest one two first second =
        record {
          front = first.front ++ second.front;
          reads = IsRead-both text middle rest first.front second.front first.reads second.reads;
          is = flat_map-append full first.front second.front ∙ ap₂ (λ l m. l ++ m) first.is second.is;
        }

    -- put in canonical order, and composed where the form composes, it is the form of a front, where a boundary follows
    pub full-made : (text rest all ordered : List ℕ) → IsFullUpTo v form text rest all → canonical_order ccc all ≡ ordered → BeginsAtBoundary v form (chars rest) → IsFirstMade v form text rest (ended v (composes form) ordered)
    full-made text rest all ordered a order at =
        let made = settled-is_form v form a.front all (ended v (composes form) ordered) (is_compat form) (composes form) refl refl (sym a.is) (ap (ended v (composes form)) (sym order)) in
        record {
          end = IsRead-end text rest a.front a.reads;
          made = ap (normal_form v form) a.reads.split ∙ parts-at v sound form a.front (chars rest) at ∙ ap (λ l. l ++ normal_form v form (chars rest)) (sym made);
        }

    -- ---- the same beside the classes

    pub decomposed-start : (text : List ℕ) → IsUtf8 text → IsDecomposedUpTo v form text text []
    decomposed-start text utf8 = ([], record { front = []; reads = IsRead-start text utf8; is = refl }, refl)

    pub decomposed-more : (text rest later : List ℕ) (c : ℕ) (list made : List CodeAndClass) → rest ≡ encode_utf8 c ++ later → IsDecomposedUpTo v form text rest list → made ≡ list ++ with_classes v (full c) → IsDecomposedUpTo v form text later made
    decomposed-more text rest later c list made begins a more =
        let one : IsFullUpTo v form rest later (full c) = record { front = c ∷ []; reads = IsRead-next rest rest c later [] begins (IsRead-start rest a.1.reads.utf8); is = append-nil (full c) } in
        (a.0 ++ full c, full-both text rest later a.0 (full c) a.1 one, more ∙ ap (λ l. l ++ with_classes v (full c)) a.2 ∙ sym (map-append (with_class v) a.0 (full c)))

    pub decomposed-made : (text rest : List ℕ) (list : List CodeAndClass) (codes : List ℕ) (composed : Bool) → composed ≡ composes form → IsDecomposedUpTo v form text rest list → BeginsAtBoundary v form (chars rest) →
        ((cs : List ℕ) → list ≡ with_classes v cs → codes ≡ ended v composed (canonical_order ccc cs)) → IsFirstMade v form text rest codes
    decomposed-made text rest list codes composed last a at settled =
        subst (IsFirstMade v form text rest) (sym (settled a.0 a.2 ∙ ap (λ b. ended v b (canonical_order ccc a.0)) last)) (full-made text rest a.0 (canonical_order ccc a.0) a.1 refl at)

-- what the checks of functions cite
pub ruleset segment_answers = (full-first)
