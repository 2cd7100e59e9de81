-- What passes the quick check is copied, and segments are made each for itself.
use Rattle.std.proofs.Common.{◌≡◌, ℕ, ◌-◌, ◌<◌, ◌⊎◌, List, [], ◌∷◌, ◌++◌, None, length, chars, IsUtf8, encode_utf8, encode_utf8_all, refl, sym, ap, subst, ◌∙◌, arith, inl, inr, append_assoc, append-nil, length-append, take_at, drop_at, Bool, true, false, take, drop, slice_range, IsCharBoundary, flat_map, suc, Option, Some, All, get_or}
use Rattle.np_forms.proofs.Words.{append_cancel_right, nil_from_length, cases_lt, and_from, chars-nil, chars-append, chars_past_char}
use Rattle.np_forms.proofs.Words.{encodes-append, encodes-chars, IsCharBoundary-at_seam, IsCharBoundary-from_take, IsUtf8-drop, IsUtf8-take, Form, IsAssigned}
use Rattle.np_forms.proofs.Words.{canonical_order, compose_of, IsCopied, ArePassing, AsciiPasses, IsPassing, decomposed, ended, normal_form, IsReadAssigned}
use Rattle.np_forms.proofs.Words.{BeginsAtBoundary, IsBoundary, IsSound, VersionData, class_of, full_of, IsQuickSpan, MayFollow, Walks, is_compat, composes}
use Rattle.np_forms.proofs.Words.{composite, form_bytes}
use Rattle.np_versions.proofs.TableLemmas.{Walks-front}
use Rattle.np_versions.specs.inside.Fronts.{IsPast}
use Rattle.np_forms.proofs.StreamLemmas.{normal_form-parts}
use Rattle.np_forms.proofs.QuickSpanLemmas.{quick_span_form}
use Rattle.np_forms.proofs.TextLemmas.{IsReadAssigned-front}
use Rattle.np_forms.proofs.ComposeLemmas.{compose-nil}
use Rattle.np_forms.proofs.OrderLemmas.{canonical_order-nil}

ended-nil : (v : VersionData) (b : Bool) → ended v b [] ≡ []
unfolding compose_of
ended-nil v true = compose-nil (class_of v) (composite v)
ended-nil v false = refl

pub normal_form-nil : (v : VersionData) (form : Form) → normal_form v form [] ≡ []
unfolding normal_form decomposed
normal_form-nil v form = ap (ended v (composes form)) (canonical_order-nil (class_of v)) ∙ ended-nil v (composes form)

-- nothing is left of the form
pub rest_nil : (v : VersionData) (form : Form) (rest : List ℕ) → length rest ≡ 0 → form_bytes v form rest ≡ []
rest_nil v form rest none =
    ap (λ l. encode_utf8_all (normal_form v form l)) (ap chars (nil_from_length rest none) ∙ chars-nil) ∙ ap encode_utf8_all (normal_form-nil v form)

module _ (v : VersionData) (sound : IsSound v) (form : Form) where
  -- at a boundary forms are made each for itself
  pub parts-at : (xs rest : List ℕ) → BeginsAtBoundary v form rest → normal_form v form (xs ++ rest) ≡ normal_form v form xs ++ normal_form v form rest
  parts-at xs [] at = ap (normal_form v form) (append-nil xs) ∙ sym (append-nil _) ∙ ap (λ l. normal_form v form xs ++ l) (sym (normal_form-nil v form))
  parts-at xs (c ∷ cs) at = normal_form-parts v sound form xs c cs at

  -- a text whose front passes the quick check, cut behind it
  pub IsCopied-at : (text front back : List ℕ) (cs : List ℕ) (end : ℕ) → text ≡ front ++ back → IsUtf8 back → front ≡ encode_utf8_all cs → chars text ≡ cs ++ chars back → Walks (MayFollow v form) None 0 cs end → BeginsAtBoundary v form (chars back) → IsCopied v form text front back
  IsCopied-at text front back cs end parts utf8 encoded text_is walk at =
      record {
        parts = parts;
        utf8 = utf8;
        copied = ap (λ l. encode_utf8_all (normal_form v form l)) text_is
            ∙ ap encode_utf8_all (parts-at cs (chars back) at ∙ ap (λ l. l ++ normal_form v form (chars back)) (quick_span_form v sound form cs end walk))
            ∙ encodes-append cs (normal_form v form (chars back)) ∙ ap (λ l. l ++ encode_utf8_all (normal_form v form (chars back))) (sym encoded);
      }

-- ---- where a text is cut

pub seam : (s front back : List ℕ) → s ≡ front ++ back → IsUtf8 back → IsCharBoundary s (length s - length back)
seam s front back e utf8 =
    let n : length front ≡ length s - length back = omega (arith, ap length e, length-append front back) in
    subst (IsCharBoundary s) n (IsCharBoundary-at_seam s front back e utf8)

pub IsUtf8-front : (s front back : List ℕ) → s ≡ front ++ back → IsUtf8 s → IsUtf8 back → IsUtf8 front
IsUtf8-front s front back e utf8 of_back =
    subst IsUtf8 (ap (take (length front)) e ∙ take_at front back (length front) refl) (IsUtf8-take s (length front) utf8 (IsCharBoundary-at_seam s front back e of_back))

pub front_of : (s front back : List ℕ) → s ≡ front ++ back → slice_range s 0 (length s - length back) ≡ front
front_of s front back e =
    let n : length front ≡ length s - length back - 0 = omega (arith, ap length e, length-append front back) in
    ap (take (length s - length back - 0)) e ∙ take_at front back _ n

pub front_boundary : (text front rest : List ℕ) → text ≡ front ++ rest → IsUtf8 text → IsUtf8 front → IsCharBoundary text (length front)
front_boundary text front rest e utf8 of_front =
    IsCharBoundary-from_take text (length front) utf8 (omega (arith, ap length e, length-append front rest))
    (subst IsUtf8 (sym (ap (take (length front)) e ∙ take_at front rest (length front) refl)) of_front)

module _ (v : VersionData) (form : Form) (text : List ℕ) (n : ℕ) (h : IsQuickSpan v form text n) where
  pub cut_boundary : IsCharBoundary text n
  cut_boundary = subst (IsCharBoundary text) (sym h.place) (IsCharBoundary-at_seam text (encode_utf8_all h.front) h.back h.split h.utf8)

  pub cut_at-front : take n text ≡ encode_utf8_all h.front
  cut_at-front = ap (take n) h.split ∙ take_at (encode_utf8_all h.front) h.back n (sym h.place)

-- where nothing is behind it, the text is its own form
pub IsCopied-own : (v : VersionData) (form : Form) (text stays behind : List ℕ) → IsCopied v form text stays behind → length behind ≡ 0 → text ≡ encode_utf8_all (normal_form v form (chars text))
IsCopied-own v form text stays behind copied none =
    copied.parts ∙ ap (λ l. stays ++ l) (nil_from_length behind none ∙ sym (rest_nil v form behind none)) ∙ sym copied.copied

-- then it is assigned where what stands is
pub IsCopied-all : (v : VersionData) (form : Form) (text stays behind : List ℕ) → IsCopied v form text stays behind → length behind ≡ 0 → IsAssigned v (chars stays) → IsAssigned v (chars text)
IsCopied-all v form text stays behind copied none =
    subst (λ l. IsAssigned v (chars l)) (sym (copied.parts ∙ ap (λ l. stays ++ l) (nil_from_length behind none) ∙ append-nil stays))

-- what stands is read, where each code point of it is assigned
pub IsCopied-read : (v : VersionData) (form : Form) (text stays behind : List ℕ) → IsUtf8 text → IsCopied v form text stays behind → IsAssigned v (chars stays) → IsReadAssigned v text behind
IsCopied-read v form text stays behind utf8 copied all =
    IsReadAssigned-front v text stays behind copied.parts (IsUtf8-front text stays behind copied.parts utf8 copied.utf8) copied.utf8 all

-- ---- a text cut behind what passes the quick check

-- where the text ends there, or a boundary follows
module _ (v : VersionData) (sound : IsSound v) (form : Form) (text : List ℕ) (n : ℕ) (h : IsQuickSpan v form text n) (front back : List ℕ) (of_front : front ≡ take n text) (of_back : back ≡ drop n text) where
  cut-front : front ≡ encode_utf8_all h.front
  cut-front = of_front ∙ cut_at-front v form text n h

  cut-back : back ≡ h.back
  cut-back = of_back ∙ ap (drop n) h.split ∙ drop_at (encode_utf8_all h.front) h.back n (sym h.place)

  pub IsCopied-cut : BeginsAtBoundary v form (chars back) → IsCopied v form text front back
  IsCopied-cut at =
      let parts = h.split ∙ ap (λ l. l ++ h.back) (sym cut-front) ∙ ap (λ l. front ++ l) (sym cut-back) in
      IsCopied-at v sound form text front back h.front h.end parts (subst IsUtf8 (sym cut-back) h.utf8) cut-front (h.text ∙ ap (λ l. h.front ++ chars l) (sym cut-back)) h.walk at

begins_with : (v : VersionData) (form : Form) (cs ds : List ℕ) → 0 < length cs → BeginsAtBoundary v form cs → BeginsAtBoundary v form (cs ++ ds)
begins_with v form [] ds some at = absurd (omega arith)
begins_with v form (c ∷ cs) ds some at = at

pub some_chars : (text : List ℕ) → IsUtf8 text → 0 < length text → 0 < length (chars text)
some_chars text utf8 some =
    elim (cases_lt 0 (length (chars text))) [
      | inl more ↦ more
      | inr none ↦ absurd (omega (arith, some, ap length (sym (encodes-chars text utf8) ∙ ap encode_utf8_all (nil_from_length (chars text) (omega arith)))))
    ]

-- else it is cut before the last boundary, where there is one
module _ (v : VersionData) (form : Form) (text : List ℕ) (n : ℕ) (h : IsQuickSpan v form text n) (front own part : List ℕ) (of_front : front ≡ take n text) (utf8 : IsUtf8 text) (of_own : IsUtf8 own) (of_part : IsUtf8 part)
    (e : front ≡ own ++ part) where
  own-text : text ≡ own ++ (part ++ h.back)
  own-text = h.split ∙ ap (λ l. l ++ h.back) (sym (of_front ∙ cut_at-front v form text n h) ∙ e) ∙ append_assoc own part h.back

  pub own-front : take (length own) text ≡ own
  own-front = ap (take (length own)) own-text ∙ take_at own (part ++ h.back) (length own) refl

  pub own-boundary : IsCharBoundary text (length own)
  own-boundary = front_boundary text own (part ++ h.back) own-text utf8 of_own

  -- the text behind what is cut off
  own-drop : drop (length own) text ≡ part ++ h.back
  own-drop = ap (drop (length own)) own-text ∙ drop_at own (part ++ h.back) (length own) refl

  IsCopied-before : (sound : IsSound v) → 0 < length part → BeginsAtBoundary v form (chars part) → IsCopied v form text own (part ++ h.back)
  IsCopied-before sound some at =
      let rest = part ++ h.back in
      let of_rest : IsUtf8 rest = subst IsUtf8 own-drop (IsUtf8-drop text (length own) utf8 own-boundary) in
      let next : chars rest ≡ chars part ++ chars h.back = chars-append part h.back of_part in
      let text_is : chars text ≡ chars own ++ chars rest = ap chars own-text ∙ chars-append own rest of_own in
      let same : h.front ≡ chars own ++ chars part =
      append_cancel_right h.front (chars own ++ chars part) (chars h.back)
      (sym h.text ∙ text_is ∙ ap (λ l. chars own ++ l) next ∙ sym (append_assoc (chars own) (chars part) (chars h.back))) in
      let walk = Walks-front (MayFollow v form) None 0 h.end (chars own) (chars part) (subst (λ l. Walks (MayFollow v form) None 0 l h.end) same h.walk) in
      IsCopied-at v sound form text own rest (chars own) walk.0 own-text of_rest (sym (encodes-chars own of_own)) text_is walk.1
      (subst (BeginsAtBoundary v form) (sym next) (begins_with v form (chars part) (chars h.back) (some_chars part of_part some) at))

  pub IsCopied-last : (sound : IsSound v) (first later : List ℕ) → (own ≡ []) ⊎ BeginsAtBoundary v form (chars part) → (0 < length front → 0 < length part) → first ≡ take (length own) text → later ≡ drop (length own) text →
      IsCopied v form text first later
  IsCopied-last sound first later cut some of_first of_later =
      elim (cases_lt 0 (length own)) [
        | inr none ↦
            let empty : own ≡ [] = nil_from_length own (omega arith) in
            let all : later ≡ text = of_later ∙ ap (λ l. drop (length l) text) empty in
            subst (λ l. IsCopied v form text first l) (sym all)
            (subst (λ l. IsCopied v form text l text) (sym (of_first ∙ ap (λ l. take (length l) text) empty)) (record { parts = refl; utf8 = utf8; copied = refl }))
        | inl more ↦
            let mine : first ≡ own = of_first ∙ own-front in
            let its : later ≡ part ++ h.back = of_later ∙ own-drop in
            let long = some (omega (arith, more, ap length e, length-append own part)) in
            let at : BeginsAtBoundary v form (chars part) = elim cut [ inl empty ↦ absurd (omega (arith, more, ap length empty)) | inr begins ↦ begins ] in
            subst (λ l. IsCopied v form text first l) (sym its) (subst (λ l. IsCopied v form text l (part ++ h.back)) (sym mine) (IsCopied-before sound long at))
      ]

-- ---- the forms of the segments, one behind the other

pub settled-is_form : (v : VersionData) (form : Form) (xs list made : List ℕ) (compat composed : Bool) → compat ≡ is_compat form → composed ≡ composes form →
    list ≡ flat_map (full_of v compat) xs → made ≡ ended v composed (canonical_order (class_of v) list) → made ≡ normal_form v form xs
unfolding normal_form decomposed
settled-is_form v form xs list made compat composed kind last full is =
    is ∙ ap (λ b. ended v b (canonical_order (class_of v) list)) last
    ∙ ap (λ l. ended v (composes form) (canonical_order (class_of v) l)) (full ∙ ap (λ b. flat_map (full_of v b) xs) kind)

pub form-end : (v : VersionData) (form : Form) (whole out rest : List ℕ) → out ++ encode_utf8_all (normal_form v form (chars rest)) ≡ whole → length rest ≡ 0 → out ≡ whole
form-end v form whole out rest all none =
    sym (append-nil out) ∙ ap (λ l. out ++ l) (sym (rest_nil v form rest none)) ∙ all

-- ---- where a text is cut behind a front of its own

pub begins_behind : (v : VersionData) (form : Form) (text front later : List ℕ) (c : ℕ) (back : List ℕ) → text ≡ front ++ (encode_utf8 c ++ back) → IsUtf8 text → IsUtf8 front → later ≡ drop (length front) text →
    IsBoundary v form c → BeginsAtBoundary v form (chars later)
begins_behind v form text front later c back e utf8 of_front is at =
    let rest = encode_utf8 c ++ back in
    let of_later = subst IsUtf8 (sym is) (IsUtf8-drop text (length front) utf8 (front_boundary text front rest e utf8 of_front)) in
    let its : later ≡ rest = is ∙ ap (drop (length front)) e ∙ drop_at front rest (length front) refl in
    subst (BeginsAtBoundary v form) (sym (chars_past_char later back c of_later its)) at

-- ---- code points that stay, one behind the other

module _ (v : VersionData) (form : Form) where
  passing_walk : (before : Option ℕ) (cs : List ℕ) → All (IsPassing v form) cs → Walks (MayFollow v form) before 0 cs 0
  passing_walk before [] all = refl
  passing_walk before (c ∷ cs) all = (0, inl (all 0 c (omega arith)).0, passing_walk (Some c) cs (λ k d lt. all (suc k) d (omega arith)))

  all_assigned : (cs : List ℕ) → All (IsPassing v form) cs → IsAssigned v cs
  all_assigned [] all = refl
  all_assigned (c ∷ cs) all = and_from _ _ (all 0 c (omega arith)).1 (all_assigned cs (λ k d lt. all (suc k) d (omega arith)))

  -- ASCII does, where that is asked for
  pub passing_ascii : (ascii : Bool) → (ascii ≡ true → AsciiPasses v form) → (text rest : List ℕ) → IsPast (λ c. (ascii ≡ true) × (c < 128)) text rest → ArePassing v form text rest
  passing_ascii ascii stays text rest past =
      record {
        front = past.front;
        split = past.split;
        text_is = past.text_is;
        utf8 = past.utf8;
        passed = λ k d lt. (let both = past.passed k d lt in stays both.0 (get_or past.front k d) both.1);
      }

  module _ (text rest : List ℕ) (past : ArePassing v form text rest) where
    pub passing_read : IsReadAssigned v text rest
    passing_read = record { before = past.front; reads = record { utf8 = past.utf8; bytes = past.split; split = past.text_is }; assigned = all_assigned past.front past.passed }

    pub passing_front : (n : ℕ) → n ≡ length text - length rest → take n text ≡ encode_utf8_all past.front
    passing_front n is =
        ap (take n) past.split ∙ take_at (encode_utf8_all past.front) rest n (omega (arith, is, ap length past.split, length-append (encode_utf8_all past.front) rest))

    -- where a boundary is behind them
    pub passing_copied : (sound : IsSound v) (front : List ℕ) → front ≡ encode_utf8_all past.front → BeginsAtBoundary v form (chars rest) → IsCopied v form text front rest
    passing_copied sound front is at =
        IsCopied-at v sound form text front rest past.front 0 (past.split ∙ ap (λ l. l ++ rest) (sym is)) past.utf8 is past.text_is (passing_walk None past.front past.passed) at
