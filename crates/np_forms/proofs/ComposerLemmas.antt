-- The steps of a composition in one pass.
use Rattle.std.proofs.Common.{◌≡◌, ℕ, ◌<◌, ◌≤◌, Bool, true, ◌&&◌, ◌||◌, ◌==◌, nat_lt, List, [], ◌∷◌, ◌++◌, length, get_or, set, Option, Some, None, unwrap_or, refl, sym, ap, ◌∙◌, arith, inl, inr, append_assoc, append-nil, zero-le, suc, ◌+◌, take, drop, ◌⊎◌, subst}
use Rattle.np_forms.proofs.Words.{cond-true, cond-false, cases_Bool, nat_tests, get_or_at, set_at, take_more_set, drop-set-lt, length-take-le, length-map}
use Rattle.np_forms.proofs.Words.{map-set, map_push, VersionData, class_of, is_ordered, is_reorderable, is_free, joined, compose_after, compose, compose_of}
use Rattle.np_forms.proofs.Words.{composite, IsAfterStarter, IsComposing, and_place, pair_with_last, drop-cons, take-set-lt, CodeAndClass, codes_of}
use Rattle.np_forms.proofs.Words.{with_class, with_classes, IsInPlace}
use Rattle.std.proofs.lemmas.List.Folds.{list_all-append}
use Rattle.np_forms.proofs.OrderLemmas.{is_reorderable-false, is_ordered-parts, is_ordered-tail, is_ordered-back}
use Rattle.np_forms.proofs.ComposeLemmas.{joined-free, joined-blocked, compose_after-nil, compose_after-joined, compose_after-starter, compose_after-kept, compose-nil, compose-starter, compose-non_starter, is_ordered-remove}

module _ (v : VersionData) where
  abbrev ccc : ℕ → ℕ
  ccc = class_of v

  abbrev join : ℕ → ℕ → Option ℕ
  join = composite v

  and_place-some : (q : ℕ) (o : Option ℕ) (r p : ℕ) → and_place q o ≡ Some (r, p) → (q ≡ r) × (o ≡ Some p)
  and_place-some q None r p h = cc
  and_place-some q (Some x) r p h =
      (ap (λ (w : Option (ℕ × ℕ)). (unwrap_or w (q, x)).0) h, ap (λ (w : Option (ℕ × ℕ)). Some (unwrap_or w (q, x)).1) h)

  and_place-none : (q : ℕ) (o : Option ℕ) → and_place q o ≡ None → o ≡ None
  and_place-none q None h = refl
  and_place-none q (Some x) h = cc

  tests : (last k m : ℕ) (b : Bool) → b ≡ (last == 0 || nat_lt last m) → last ≤ k → 0 < k → (b && ((nat_lt 0 k && nat_lt k m) && true)) ≡ (k == 0 || nat_lt k m)
  tests last k m b e up positive = grind (arith, nat_tests)

  pushed : (bs : List ℕ) (last c x : ℕ) → is_free ccc bs x ≡ (last == 0 || nat_lt last (class_of v x)) → last ≤ class_of v c → 0 < class_of v c → is_free ccc (bs ++ c ∷ []) x ≡ (class_of v c == 0 || nat_lt (class_of v c) (class_of v x))
  unfolding is_reorderable
  pushed bs last c x e up non_starter =
      list_all-append (is_reorderable ccc x) bs (c ∷ []) ∙ tests last (class_of v c) (class_of v x) _ e up non_starter

  module _ (whole out : List ℕ) (q last c : ℕ) (rest : List ℕ) (a : IsAfterStarter v whole out q last (c ∷ rest)) where
    at_q : get_or out q 0 ≡ a.s
    at_q = ap (λ l. get_or l q 0) a.split ∙ get_or_at a.done a.s a.bs 0 q (sym a.place)

    joins_after : (r p : ℕ) → pair_with_last v out (Some q) last c ≡ Some (r, p) → IsAfterStarter v whole (set out r p) q last rest
    unfolding pair_with_last
    joins_after r p h =
        elim (cases_Bool (last == 0 || nat_lt last (class_of v c))) [
          | inr off ↦ let clash = sym (cond-false _ _ _ off) ∙ h in cc
          | inl on ↦
              let found = and_place-some q (composite v (get_or out q 0) c) r p (sym (cond-true _ _ _ on) ∙ h) in
              let both : composite v a.s c ≡ Some p = ap (λ x. composite v x c) (sym at_q) ∙ found.1 in
              let free : is_free ccc a.bs c ≡ true = a.free c ∙ on in
              record {
                done = a.done;
                s = p;
                bs = a.bs;
                split = ap (λ n. set out n p) (sym found.0) ∙ ap (λ l. set l q p) a.split ∙ set_at a.done a.s a.bs p q (sym a.place);
                place = a.place;
                gives = a.gives ∙ ap (λ l. a.done ++ l) (compose_after-joined ccc join a.s a.bs c p rest (joined-free ccc join a.s a.bs c free ∙ both));
                free = a.free;
                rises = a.rises;
                ordered = is_ordered-remove ccc a.bs c rest free a.ordered;
              }
        ]

    apart : pair_with_last v out (Some q) last c ≡ None → joined ccc join a.s a.bs c ≡ None
    unfolding pair_with_last
    apart h =
        elim (cases_Bool (last == 0 || nat_lt last (class_of v c))) [
          | inr off ↦ joined-blocked ccc join a.s a.bs c (a.free c ∙ off)
          | inl on ↦
              let none = and_place-none q (composite v (get_or out q 0) c) (sym (cond-true _ _ _ on) ∙ h) in
              joined-free ccc join a.s a.bs c (a.free c ∙ on) ∙ ap (λ x. composite v x c) (sym at_q) ∙ none
        ]

    starts_after : pair_with_last v out (Some q) last c ≡ None → class_of v c ≡ 0 → compose ccc join whole ≡ out ++ compose_after ccc join c [] rest
    starts_after h starter =
        a.gives ∙ ap (λ l. a.done ++ l) (compose_after-starter ccc join a.s a.bs c rest (apart h) (omega arith))
        ∙ sym (append_assoc a.done (a.s ∷ a.bs) _) ∙ ap (λ l. l ++ compose_after ccc join c [] rest) (sym a.split)

    keeps_after : pair_with_last v out (Some q) last c ≡ None → 0 < class_of v c → IsAfterStarter v whole (out ++ c ∷ []) q (class_of v c) rest
    keeps_after h non_starter =
        let up : last ≤ class_of v c = a.rises c rest a.ordered non_starter in
        record {
          done = a.done;
          s = a.s;
          bs = a.bs ++ c ∷ [];
          split = ap (λ l. l ++ c ∷ []) a.split ∙ append_assoc a.done (a.s ∷ a.bs) (c ∷ []);
          place = a.place;
          gives = a.gives ∙ ap (λ l. a.done ++ l) (compose_after-kept ccc join a.s a.bs c rest (apart h) non_starter);
          free = λ x. pushed a.bs last c x (a.free x) up non_starter;
          rises = λ d ds ordered positive.
              let parts = is_ordered-parts ccc c d ds (is_ordered-back ccc a.bs (c ∷ d ∷ ds) (ap (is_ordered ccc) (sym (append_assoc a.bs (c ∷ []) (d ∷ ds))) ∙ ordered)) in
              elim (is_reorderable-false ccc c d parts.0) [ inl low ↦ absurd (omega arith) | inr up ↦ up ];
          ordered = ap (is_ordered ccc) (append_assoc a.bs (c ∷ []) rest) ∙ a.ordered;
        }

  first_starter : (whole out : List ℕ) (c : ℕ) (rest : List ℕ) → compose ccc join whole ≡ out ++ compose_after ccc join c [] rest → is_ordered ccc rest ≡ true → IsAfterStarter v whole (out ++ c ∷ []) (length out) 0 rest
  first_starter whole out c rest gives ordered =
      record { done = out; s = c; bs = []; split = refl; place = refl; gives = gives; free = λ x. refl; rises = λ d ds _ _. zero-le; ordered = ordered }

  pub push_joins : (whole out : List ℕ) (starter : Option ℕ) (last c q p : ℕ) (rest : List ℕ) → pair_with_last v out starter last c ≡ Some (q, p) → IsComposing v whole out starter last (c ∷ rest) → IsComposing v whole (set out q p) starter last rest
  unfolding pair_with_last
  push_joins whole out None last c q p rest h a = cc
  push_joins whole out (Some r) last c q p rest h a = joins_after whole out r last c rest a q p h

  pub push_starts : (whole out : List ℕ) (starter : Option ℕ) (last c : ℕ) (rest : List ℕ) → pair_with_last v out starter last c ≡ None → class_of v c ≡ 0 → IsComposing v whole out starter last (c ∷ rest) → IsAfterStarter v whole (out ++ c ∷ []) (length out) 0 rest
  push_starts whole out None last c rest h first a =
      first_starter whole out c rest (a.gives ∙ ap (λ l. out ++ l) (compose-starter ccc join c rest (omega arith))) (is_ordered-tail ccc c rest a.ordered)
  push_starts whole out (Some q) last c rest h first a =
      first_starter whole out c rest (starts_after whole out q last c rest a h first) (is_ordered-tail ccc c rest (is_ordered-back ccc a.bs (c ∷ rest) a.ordered))

  pub push_keeps : (whole out : List ℕ) (starter : Option ℕ) (last c : ℕ) (rest : List ℕ) → pair_with_last v out starter last c ≡ None → 0 < class_of v c → IsComposing v whole out starter last (c ∷ rest) → IsComposing v whole (out ++ c ∷ []) starter (class_of v c) rest
  push_keeps whole out None last c rest h non_starter a =
      record {
        gives = a.gives ∙ ap (λ l. out ++ l) (compose-non_starter ccc join c rest non_starter) ∙ sym (append_assoc out (c ∷ []) _);
        ordered = is_ordered-tail ccc c rest a.ordered;
      }
  push_keeps whole out (Some q) last c rest h non_starter a = keeps_after whole out q last c rest a h non_starter

  pub IsComposing-start : (whole : List ℕ) → is_ordered ccc whole ≡ true → IsComposing v whole [] None 0 whole
  IsComposing-start whole ordered = record { gives = refl; ordered = ordered }

  pub IsComposing-end : (whole out : List ℕ) (starter : Option ℕ) (last : ℕ) → IsComposing v whole out starter last [] → out ≡ compose_of v whole
  unfolding compose_of
  IsComposing-end whole out None last a = sym (a.gives ∙ ap (λ l. out ++ l) (compose-nil ccc join) ∙ append-nil out)
  IsComposing-end whole out (Some q) last a = a.split ∙ sym (a.gives ∙ ap (λ l. a.done ++ l) (compose_after-nil ccc join a.s a.bs))

-- ---- the steps of a composition in its own list: what was composed stands in front, what is still to be read from a later place on

-- the first of what is left
record Next (v : VersionData) (rest : List ℕ) (x : CodeAndClass) (tail : List CodeAndClass) : Type 0 where
  d : ℕ
  ds : List ℕ
  split : rest ≡ d ∷ ds
  is : x ≡ with_class v d
  left : tail ≡ with_classes v ds

next_of : (v : VersionData) (rest : List ℕ) (x : CodeAndClass) (tail : List CodeAndClass) → x ∷ tail ≡ with_classes v rest → Next v rest x tail
next_of v [] x tail e = cc
next_of v (d ∷ ds) x tail e = record { d = d; ds = ds; split = refl; is = cc; left = cc }

abbrev code : CodeAndClass → ℕ
code x = x.code

module _ (v : VersionData) (whole : List ℕ) (list : List CodeAndClass) (kept at : ℕ) (x : CodeAndClass) (starter : Option ℕ) (last : ℕ) (behind : kept ≤ at) (inside : at < length list) (here : x ≡ get_or list at x) (a : IsInPlace v whole at list kept starter last) where
  abbrev done : List ℕ
  done = codes_of (take kept list)

  next : Next v a.rest x (drop (at + 1) list)
  next =
      let step : suc at ≡ at + 1 = omega arith in
      let cut : drop at list ≡ get_or list at x ∷ drop (at + 1) list = drop-cons list at x inside ∙ ap (λ n. get_or list at x ∷ drop n list) step in
      next_of v a.rest x (drop (at + 1) list) (ap (λ y. y ∷ drop (at + 1) list) here ∙ sym cut ∙ a.left)

  -- the code point that is read stands in front of what is left
  reads : IsComposing v whole done starter last (x.code ∷ next.ds)
  reads = subst (IsComposing v whole done starter last) (next.split ∙ ap (λ c. c ∷ next.ds) (sym (ap code next.is))) a.composing

  class_is : x.class ≡ class_of v x.code
  class_is = ap (λ (y : CodeAndClass). y.class) next.is ∙ ap (class_of v) (sym (ap code next.is))

  -- a store in front changes nothing of it
  left : (i : ℕ) (y : CodeAndClass) → i ≤ at → drop (at + 1) (set list i y) ≡ with_classes v next.ds
  left i y le = drop-set-lt (at + 1) list i y (omega arith) ∙ next.left

  more : codes_of (take (kept + 1) (set list kept x)) ≡ done ++ x.code ∷ []
  more = ap codes_of (take_more_set list kept x (omega arith)) ∙ map_push code (take kept list) x

  pub in_place_joins : (q p : ℕ) (y : CodeAndClass) → y.code ≡ p → q < kept → (x.class ≡ class_of v x.code → pair_with_last v done starter last x.code ≡ Some (q, p)) → IsInPlace v whole (at + 1) (set list q y) kept starter last
  in_place_joins q p y is low found =
      let step = push_joins v whole done starter last x.code q p next.ds (found class_is) reads in
      let shown : codes_of (take kept (set list q y)) ≡ set done q p = ap codes_of (take-set-lt kept list q y low) ∙ map-set code (take kept list) q y ∙ ap (set done q) is in
      record { rest = next.ds; left = left q y (omega arith); composing = subst (λ l. IsComposing v whole l starter last next.ds) (sym shown) step }

  in_place_composes : (place : Option ℕ) → (x.class ≡ 0 × place ≡ Some kept) ⊎ (0 < x.class × place ≡ starter) → pair_with_last v done starter last x.code ≡ None → IsComposing v whole (done ++ x.code ∷ []) place x.class next.ds
  in_place_composes place (inl (zero_class, here_place)) none =
      let stands : length done ≡ kept = length-map (take kept list) code ∙ length-take-le kept list (omega arith) in
      subst (λ p. IsComposing v whole (done ++ x.code ∷ []) p x.class next.ds) (ap (λ q. Some q) stands ∙ sym here_place)
      (subst (λ k. IsAfterStarter v whole (done ++ x.code ∷ []) (length done) k next.ds) (sym zero_class) (push_starts v whole done starter last x.code next.ds none (sym class_is ∙ zero_class) reads))
  in_place_composes place (inr (some_class, kept_place)) none =
      subst (λ p. IsComposing v whole (done ++ x.code ∷ []) p x.class next.ds) (sym kept_place)
      (subst (λ k. IsComposing v whole (done ++ x.code ∷ []) starter k next.ds) (sym class_is) (push_keeps v whole done starter last x.code next.ds none (omega (arith, some_class, class_is)) reads))

  -- the code point is kept, and is the last starter where it is one
  pub in_place_stays : (place : Option ℕ) → (x.class ≡ 0 × place ≡ Some kept) ⊎ (0 < x.class × place ≡ starter) → (x.class ≡ class_of v x.code → pair_with_last v done starter last x.code ≡ None) → IsInPlace v whole (at + 1) (set list kept x) (kept + 1) place x.class
  in_place_stays place stands none =
      let composing = subst (λ l. IsComposing v whole l place x.class next.ds) (sym more) (in_place_composes place stands (none class_is)) in
      record { rest = next.ds; left = left kept x behind; composing = composing }
