-- A stream whose ready code points are moved to the end of a text, and one that is begun anew at a boundary.
use Rattle.std.proofs.Common.{◌≡◌, ℕ, Bool, List, [], ◌∷◌, ◌++◌, IsUtf8, chars, encode_utf8_all, refl, sym, ap, subst, ◌∙◌, append_assoc, append-nil, ◌<◌, ◌≤◌}
use Rattle.std.proofs.Common.{true, false, length, flat_map, ap₂, arith, inl, inr}
use Rattle.np_forms.proofs.Words.{encodes-append, chars_from_encodes, Form, IsSound, VersionData, class_of, composes, IsNormalForm, IsStreaming, StreamState}
use Rattle.np_forms.proofs.Words.{TakesIn, canonical_order, ended, normal_form, Breaks, HoldsFront, Writes, flat_map-append, chars-append, list_all, is_compat}
use Rattle.np_forms.proofs.Words.{composite, full_of, is_non_starter, compose_after, BeginsAtBoundary, IsBoundary, Shape, no_starter, starter, IsHeld}
use Rattle.np_forms.proofs.Words.{decomposed, Closes, WritesEnd}
use Rattle.np_forms.proofs.HeldLemmas.{IsStreaming-start, whole_streams, IsStreaming-held, held_streaming, non_starters_ended, order_starter}
use Rattle.np_forms.proofs.FormLemmas.{IsNormalForm-normal_form, normal_form_is, IsNormalForm-value}
use Rattle.np_versions.proofs.CompositeLemmas.{composite-never}
use Rattle.np_forms.proofs.ComposeLemmas.{compose-starter}
use Rattle.np_forms.proofs.CopyLemmas.{parts-at, some_chars}
use Rattle.np_forms.proofs.OrderLemmas.{canonical_order-at_starter, list_all-canonical_order}
use Rattle.np_forms.proofs.StreamLemmas.{compose_of_is, last_after, non_starter_or_starter, ended-boundary, full_of-boundary}

-- what holds under a version and a form, under equal ones
pub under : (P : VersionData → Form → Type 0) {v w : VersionData} {f g : Form} → v ≡ w → f ≡ g → P v f → P w g
under P {v} {w} {f} {g} version form h = subst (λ u. P u g) version (subst (P v) form h)

-- a stream under the version and the form of another state
pub same_streaming : (a b : StreamState) (fed out pending : List ℕ) → b.version ≡ a.version → b.form ≡ a.form → IsStreaming a.version a.form fed out pending → IsStreaming b.version b.form fed out pending
same_streaming a b fed out pending version form s = under (λ v f. IsStreaming v f fed out pending) (sym version) (sym form) s

pub Writes-start : (s : StreamState) (bytes : List ℕ) → s.ready ≡ [] → Writes s s bytes bytes []
Writes-start s bytes empty =
    record {
      more = [];
      written = sym (append-nil bytes);
      version = refl;
      form = refl;
      moved = empty;
      carries = λ fed out h.
          subst (λ l. IsStreaming s.version s.form l (out ++ []) s.pending) (sym (append-nil fed)) (subst (λ l. IsStreaming s.version s.form fed l s.pending) (sym (append-nil out)) h);
    }

pub Writes-fed : (old mid : StreamState) (before after : List ℕ) (c : ℕ) → old.ready ≡ [] → TakesIn old mid c → after ≡ before ++ encode_utf8_all mid.ready → Writes old (record mid { ready = [] }) before after (c ∷ [])
Writes-fed old mid before after c empty t is =
    record {
      more = t.more;
      written = is ∙ ap (λ l. before ++ encode_utf8_all l) (t.ready ∙ ap (λ l. l ++ t.more) empty);
      version = t.version;
      form = t.form;
      moved = refl;
      carries = t.carries;
    }

-- what was pending is written, in canonical order, and composed where the form composes
pub Breaks-settled : (v : VersionData) (sound : IsSound v) (form : Form) (e : Bool) (pending ready left before after settled : List ℕ) → e ≡ composes form → ready ≡ [] → left ≡ [] → settled ≡ ended v e (canonical_order (class_of v) pending) → after ≡ before ++ encode_utf8_all settled
    → Breaks (record { version = v; form = form; ready = ready; pending = pending }) (record { version = v; form = form; ready = ready; pending = left }) before after
Breaks-settled v sound form e pending ready left before after settled comp empty nothing is grown =
    record {
      ends = record {
        more = ended v e (canonical_order (class_of v) pending);
        written = grown ∙ ap (λ l. before ++ encode_utf8_all l) is;
        whole = λ fed out s. whole_streams v sound form e pending fed out comp s;
      };
      version = refl;
      form = refl;
      moved = empty;
      begins = subst (IsStreaming v form [] []) (sym nothing) (IsStreaming-start v sound form);
    }

pub more_bytes : (x y z xs ys : List ℕ) → y ≡ x ++ encode_utf8_all xs → z ≡ y ++ encode_utf8_all ys → z ≡ x ++ encode_utf8_all (xs ++ ys)
more_bytes x y z xs ys of_y of_z =
    of_z ∙ ap (λ l. l ++ encode_utf8_all ys) of_y ∙ append_assoc x (encode_utf8_all xs) (encode_utf8_all ys) ∙ ap (λ l. x ++ l) (sym (encodes-append xs ys))

pub Writes-next : (a b c : StreamState) (x y z text next : List ℕ) → Writes a b x y text → Writes b c y z next → Writes a c x z (text ++ next)
Writes-next a b c x y z text next first second =
    record {
      more = first.more ++ second.more;
      written = more_bytes x y z first.more second.more first.written second.written;
      version = second.version ∙ first.version;
      form = second.form ∙ first.form;
      moved = second.moved;
      carries = λ fed out h.
          let mid = same_streaming a b (fed ++ text) (out ++ first.more) b.pending first.version first.form (first.carries fed out h) in
          let last = same_streaming b a ((fed ++ text) ++ next) ((out ++ first.more) ++ second.more) c.pending (sym first.version) (sym first.form) (second.carries (fed ++ text) (out ++ first.more) mid) in
          subst (λ l. IsStreaming a.version a.form l (out ++ (first.more ++ second.more)) c.pending) (append_assoc fed text next)
          (subst (λ l. IsStreaming a.version a.form ((fed ++ text) ++ next) l c.pending) (append_assoc out first.more second.more) last);
    }

-- behind what was written the front of a text is held back
pub Writes-held : (a b c : StreamState) (x y text rest next : List ℕ) → Writes a b x y text → (h : HoldsFront b c rest next) → Writes a c x y (text ++ h.front)
Writes-held a b c x y text rest next first h =
    record {
      more = first.more;
      written = first.written;
      version = h.version ∙ first.version;
      form = h.form ∙ first.form;
      moved = h.ready ∙ first.moved;
      carries = λ fed out s.
          let mid = same_streaming a b (fed ++ text) (out ++ first.more) b.pending first.version first.form (first.carries fed out s) in
          let last = same_streaming b a ((fed ++ text) ++ h.front) (out ++ first.more) c.pending (sym first.version) (sym first.form) (h.carries (fed ++ text) (out ++ first.more) mid) in
          subst (λ l. IsStreaming a.version a.form l (out ++ first.more) c.pending) (append_assoc fed text h.front) last;
    }

-- before what is written the front of a text is held back
pub Writes-behind : (a b c : StreamState) (x y text rest : List ℕ) → a.ready ≡ [] → HoldsFront a b text rest → Writes b c x y (chars rest) → Writes a c x y (chars text)
Writes-behind a b c x y text rest empty h second =
    let front = Writes-held a a b x x [] text rest (Writes-start a x empty) h in
    subst (Writes a c x y) (sym h.reads.split) (Writes-next a b c x x y h.front (chars rest) front second)

-- what the bytes of the function's form write
pub made_form : (v : VersionData) (sound : IsSound v) (form : Form) (text bytes : List ℕ) → IsUtf8 bytes → bytes ≡ encode_utf8_all (normal_form v form text) → IsNormalForm v form text (chars bytes)
made_form v sound form text bytes utf8 written =
    subst (IsNormalForm v form text) (chars_from_encodes (normal_form v form text) bytes utf8 (sym written)) (IsNormalForm-normal_form v sound form text)

-- what the checks of functions cite
pub ruleset written_answers = (Writes-fed)

-- ---- a stream that is begun anew at a boundary, behind the form of what came before

module _ (v : VersionData) (sound : IsSound v) where
  -- what begins with a starter does not end as non-starters alone
  no_non_starters : (e : Bool) (s : ℕ) (cs : List ℕ) → class_of v s ≤ 0 → list_all (is_non_starter v) (ended v e (s ∷ cs)) ≡ true → ⊥
  no_non_starters false s cs low all = non_starter_or_starter v sound s [] cs (omega arith) all
  no_non_starters true s cs low all =
      let same = compose_of_is v sound (s ∷ cs) ∙ compose-starter (class_of v) (composite v) s cs low in
      elim (last_after v sound s [] cs low refl) [
        | inl whole ↦ non_starter_or_starter v sound whole.s [] whole.ms whole.starter (ap (list_all (is_non_starter v)) (sym (same ∙ whole.split)) ∙ all)
        | inr part ↦
            let split = ap (compose_after (class_of v) (composite v) s []) part.split ∙ part.goes_on part.rest ∙ ap (λ l. part.out ++ l) part.last.split in
            non_starter_or_starter v sound part.last.s part.out part.last.ms part.last.starter (ap (list_all (is_non_starter v)) (sym (same ∙ split)) ∙ all)
      ]

  shape_behind : (done out ms pending : List ℕ) → (out ≡ [] → pending ≡ ms → ⊥) → Shape v out ms pending → Shape v (done ++ out) ms pending
  shape_behind done out ms pending none (no_starter ns) = absurd (none refl refl)
  shape_behind done out ms pending none (starter before s ns low) = starter (done ++ before) s ns low

  module _ (form : Form) (pre : List ℕ) (c : ℕ) (cs mt pending : List ℕ) (at : IsBoundary v form c) where
    abbrev each : ℕ → List ℕ
    each = full_of v (is_compat form)

    abbrev order : List ℕ → List ℕ
    order = canonical_order (class_of v)

    abbrev e : Bool
    e = composes form

    abbrev behind : List ℕ
    behind = at.rest ++ flat_map each cs

    first_is : flat_map each (c ∷ cs) ≡ at.first ∷ behind
    first_is = ap (λ l. l ++ flat_map each cs) (full_of-boundary v form c sound at)

    low : class_of v at.first ≤ 0
    low = let z = at.starter in omega arith

    -- what comes behind the boundary parts from what stands before it
    parted : (zs : List ℕ) → ended v e (order (flat_map each pre ++ (flat_map each (c ∷ cs) ++ zs))) ≡ normal_form v form pre ++ ended v e (order (flat_map each (c ∷ cs) ++ zs))
    unfolding normal_form decomposed
    parted zs =
        let begin : flat_map each (c ∷ cs) ++ zs ≡ at.first ∷ (behind ++ zs) = ap (λ l. l ++ zs) first_is in
        ap (λ l. ended v e (order (flat_map each pre ++ l))) begin
        ∙ ap (ended v e) (canonical_order-at_starter (class_of v) (flat_map each pre) at.first (behind ++ zs) low)
        ∙ ended-boundary v e (order (flat_map each pre)) at.first (order (behind ++ zs)) at.starter (λ on. composite-never v at.first (at.never_second on))
        ∙ ap (λ l. ended v e (order (flat_map each pre)) ++ ended v e l) (sym (order_starter v sound at.first (behind ++ zs) low) ∙ ap order (sym begin))

    -- a starter came, so one is held back
    not_bare : (ms : List ℕ) → list_all (is_non_starter v) ms ≡ true → IsHeld v e (flat_map each (c ∷ cs)) [] ms → ⊥
    not_bare ms all h =
        let same : ended v e (at.first ∷ order behind) ≡ order ms =
        ap (ended v e) (sym (order_starter v sound at.first behind low)) ∙ ap (λ l. ended v e (order l)) (sym first_is ∙ sym (append-nil (flat_map each (c ∷ cs))))
        ∙ h.goes_on [] ∙ ap (λ l. ended v e (order l)) (append-nil ms) ∙ non_starters_ended v sound e ms all in
        no_non_starters e at.first (order behind) low (ap (list_all (is_non_starter v)) same ∙ list_all-canonical_order (class_of v) (is_non_starter v) ms all)

    IsHeld-behind : IsHeld v e (flat_map each (c ∷ cs)) mt pending → IsHeld v e (flat_map each (pre ++ c ∷ cs)) (normal_form v form pre ++ mt) pending
    IsHeld-behind h =
        let ds = flat_map each (c ∷ cs) in
        let whole = flat_map-append each pre (c ∷ cs) in
        record {
          front = flat_map each pre ++ h.front;
          non_starters = h.non_starters;
          split = whole ∙ ap (λ l. flat_map each pre ++ l) h.split ∙ sym (append_assoc (flat_map each pre) h.front h.non_starters);
          all = h.all;
          shape = shape_behind (normal_form v form pre) mt h.non_starters pending
              (λ none same. not_bare h.non_starters h.all (subst (λ l. IsHeld v e ds [] l) same (subst (λ l. IsHeld v e ds l pending) none h))) h.shape;
          goes_on = λ zs.
              ap (λ l. ended v e (order (l ++ zs))) whole ∙ ap (λ l. ended v e (order l)) (append_assoc (flat_map each pre) ds zs)
              ∙ parted zs ∙ ap (λ l. normal_form v form pre ++ l) (h.goes_on zs) ∙ sym (append_assoc (normal_form v form pre) mt _);
        }

    -- a stream of what begins there, behind the form of what came before
    streams_behind : IsStreaming v form (c ∷ cs) mt pending → IsStreaming v form (pre ++ c ∷ cs) (normal_form v form pre ++ mt) pending
    streams_behind s = IsStreaming-held v sound form (pre ++ c ∷ cs) (normal_form v form pre ++ mt) pending (IsHeld-behind (held_streaming v sound form (c ∷ cs) mt pending s))

-- the front of what begins at a boundary begins there, or is empty
boundary-front : (v : VersionData) (form : Form) (xs ys : List ℕ) → BeginsAtBoundary v form (xs ++ ys) → BeginsAtBoundary v form xs
boundary-front v form [] ys at = tt
boundary-front v form (x ∷ xs) ys at = at

-- the same under an equal version and form
boundary-same : (v w : VersionData) (form other : Form) (xs : List ℕ) → v ≡ w → form ≡ other → BeginsAtBoundary v form xs → BeginsAtBoundary w other xs
boundary-same v w form other xs version same at = subst (λ q. BeginsAtBoundary q other xs) version (subst (λ q. BeginsAtBoundary v q xs) same at)

-- ---- a stream that is broken off, and what stands behind it

module _ (a : StreamState) (sound : IsSound a.version) where
  -- the end, behind a first part that was fed
  closes_fed : (b : StreamState) (w x y head : List ℕ) → Writes a b w x head → WritesEnd b x y → Closes a w y head
  closes_fed b w x y head first ends =
      record {
        more = first.more ++ ends.more;
        written = more_bytes w x y first.more ends.more first.written ends.written;
        whole = λ fed out h.
            let fed_head = same_streaming a b (fed ++ head) (out ++ first.more) b.pending first.version first.form (first.carries fed out h) in
            subst (λ q. IsNormalForm q a.form (fed ++ head) (out ++ (first.more ++ ends.more))) first.version
            (subst (λ q. IsNormalForm b.version q (fed ++ head) (out ++ (first.more ++ ends.more))) first.form
            (subst (IsNormalForm b.version b.form (fed ++ head)) (append_assoc out first.more ends.more) (ends.whole (fed ++ head) (out ++ first.more) fed_head)));
      }

  -- and behind it a part whose form was made by itself
  closes_made : (w y z head body : List ℕ) → Closes a w y head → z ≡ y ++ encode_utf8_all (normal_form a.version a.form body) → BeginsAtBoundary a.version a.form body → Closes a w z (head ++ body)
  closes_made w y z head body closes made at =
      let last = normal_form a.version a.form body in
      record {
        more = closes.more ++ last;
        written = more_bytes w y z closes.more last closes.written made;
        whole = λ fed out h.
            IsNormalForm-value a.version sound a.form (fed ++ (head ++ body)) (out ++ (closes.more ++ last))
            (sym (append_assoc out closes.more last) ∙ ap (λ l. l ++ last) (normal_form_is a.version sound a.form (fed ++ head) (out ++ closes.more) (closes.whole fed out h))
            ∙ sym (parts-at a.version sound a.form (fed ++ head) body at) ∙ ap (normal_form a.version a.form) (append_assoc fed head body));
      }

  -- a text that comes where nothing is held back has its form for itself
  closes_alone : (before after text : List ℕ) → a.pending ≡ [] → after ≡ before ++ encode_utf8_all (normal_form a.version a.form text) → Closes a before after text
  unfolding normal_form decomposed
  closes_alone before after text nothing written =
      let each = full_of a.version (is_compat a.form) in
      record {
        more = normal_form a.version a.form text;
        written = written;
        whole = λ fed out h.
            IsNormalForm-value a.version sound a.form (fed ++ text) (out ++ normal_form a.version a.form text)
            (sym (ap (λ l. ended a.version (composes a.form) (canonical_order (class_of a.version) l)) (flat_map-append each fed text)
            ∙ (held_streaming a.version sound a.form fed out [] (subst (IsStreaming a.version a.form fed out) nothing h)).goes_on (flat_map each text)));
      }

  -- and a stream that was begun anew there
  writes_anew : (c d : StreamState) (w z u text tail : List ℕ) → Closes a w z text → IsStreaming c.version c.form [] [] c.pending → c.version ≡ a.version → c.form ≡ a.form →
      Writes c d z u tail → 0 < length tail → BeginsAtBoundary a.version a.form tail → Writes a d w u (text ++ tail)
  writes_anew c d w z u text [] closes begins version same last some at = absurd (omega arith)
  writes_anew c d w z u text (t ∷ tail) closes begins version same last some at =
      record {
        more = closes.more ++ last.more;
        written = more_bytes w z u closes.more last.more closes.written last.written;
        version = last.version ∙ version;
        form = last.form ∙ same;
        moved = last.moved;
        carries = λ fed out h.
            let taken = same_streaming c a (t ∷ tail) last.more d.pending (sym version) (sym same) (last.carries [] [] begins) in
            let value = normal_form_is a.version sound a.form (fed ++ text) (out ++ closes.more) (closes.whole fed out h) in
            subst (λ l. IsStreaming a.version a.form l (out ++ (closes.more ++ last.more)) d.pending) (append_assoc fed text (t ∷ tail))
            (subst (λ l. IsStreaming a.version a.form ((fed ++ text) ++ t ∷ tail) l d.pending) (ap (λ l. l ++ last.more) (sym value) ∙ append_assoc out closes.more last.more)
            (streams_behind a.version sound a.form (fed ++ text) t tail last.more d.pending at taken));
      }

-- a text in three parts: the first was fed to a stream that was broken off, the form of the second was made by itself, and the last was fed anew
pub Writes-text : (a b c d : StreamState) (w x y z u : List ℕ) (v : VersionData) (form : Form) (text head body middle tail : List ℕ) → IsSound v → v ≡ a.version → form ≡ a.form →
    text ≡ head ++ body → body ≡ middle ++ tail → IsUtf8 head → IsUtf8 middle → IsUtf8 tail → 0 < length tail → BeginsAtBoundary v form (chars body) → BeginsAtBoundary v form (chars tail) →
    Writes a b w x (chars head) → Breaks b c x y → z ≡ y ++ encode_utf8_all (normal_form v form (chars middle)) → Writes c d z u (chars tail) → Writes a d w u (chars text)
Writes-text a b c d w x y z u v form text head body middle tail sound version same parts inner of_head of_middle of_tail some at_body at_tail first brk made last =
    let of_a = subst IsSound version sound in
    let body_is : chars body ≡ chars middle ++ chars tail = ap chars inner ∙ chars-append middle tail of_middle in
    let text_is : chars text ≡ (chars head ++ chars middle) ++ chars tail =
    ap chars parts ∙ chars-append head body of_head ∙ ap (λ l. chars head ++ l) body_is ∙ sym (append_assoc (chars head) (chars middle) (chars tail)) in
    let at_middle = boundary-front v form (chars middle) (chars tail) (subst (BeginsAtBoundary v form) body_is at_body) in
    let closes = closes_made a of_a w y z (chars head) (chars middle) (closes_fed a of_a b w x y (chars head) first brk.ends)
    (made ∙ ap₂ (λ q f. y ++ encode_utf8_all (normal_form q f (chars middle))) version same) (boundary-same v a.version form a.form (chars middle) version same at_middle) in
    subst (Writes a d w u) (sym text_is)
    (writes_anew a of_a c d w z u (chars head ++ chars middle) (chars tail) closes
    (same_streaming b c [] [] c.pending brk.version brk.form brk.begins) (brk.version ∙ first.version) (brk.form ∙ first.form)
    last (some_chars tail of_tail some) (boundary-same v a.version form a.form (chars tail) version same at_tail))

-- ---- the last piece of a text, with which the rest of its normal form is written

module _ (v : VersionData) (sound : IsSound v) (form : Form) where
  -- the whole text, where nothing is held back
  pub Closes-at_once : (s : StreamState) (before after text : List ℕ) → v ≡ s.version → form ≡ s.form → s.pending ≡ [] → after ≡ before ++ encode_utf8_all (normal_form v form text) → Closes s before after text
  Closes-at_once s before after text version same nothing written =
      closes_alone s (subst IsSound version sound) before after text nothing (written ∙ ap₂ (λ q f. before ++ encode_utf8_all (normal_form q f text)) version same)

  -- a text whose front is held back; behind what was fed, the stream is broken off, and the form of the rest was made by itself
  pub Closes-held : (a b c d : StreamState) (w x y z text rest head body : List ℕ) → v ≡ a.version → form ≡ a.form → a.ready ≡ [] →
      HoldsFront a b text rest → rest ≡ head ++ body → IsUtf8 head → BeginsAtBoundary v form (chars body) →
      Writes b c w x (chars head) → Breaks c d x y → z ≡ y ++ encode_utf8_all (normal_form v form (chars body)) → Closes a w z (chars text)
  Closes-held a b c d w x y z text rest head body version same empty h parts utf8 at first brk made =
      let of_a = subst IsSound version sound in
      let front = Writes-held a a b w w [] text rest (Writes-start a w empty) h in
      let begun = Writes-next a b c w w x h.front (chars head) front first in
      subst (Closes a w z) (append_assoc h.front (chars head) (chars body) ∙ ap (λ l. h.front ++ l) (sym (ap chars parts ∙ chars-append head body utf8)) ∙ sym h.reads.split)
      (closes_made a of_a w y z (h.front ++ chars head) (chars body) (closes_fed a of_a c w x y (h.front ++ chars head) begun brk.ends)
      (made ∙ ap₂ (λ q f. y ++ encode_utf8_all (normal_form q f (chars body))) version same) (boundary-same v a.version form a.form (chars body) version same at))

-- where nothing comes, the text ends
pub closes_end : (s : StreamState) (before after text : List ℕ) → text ≡ [] → Closes s before after text → WritesEnd s before after
closes_end s before after text nothing closes =
    record {
      more = closes.more;
      written = closes.written;
      whole = λ fed out h. subst (λ l. IsNormalForm s.version s.form l (out ++ closes.more)) (ap (λ l. fed ++ l) nothing ∙ append-nil fed) (closes.whole fed out h);
    }

-- a text that comes whole, behind bytes
pub closes_form : (v : VersionData) (sound : IsSound v) (form : Form) (s : StreamState) (before after text : List ℕ) → s.version ≡ v → s.form ≡ form → IsStreaming v form [] [] s.pending → Closes s before after text → after ≡ before ++ encode_utf8_all (normal_form v form text)
closes_form v sound form s before after text version same begins closes =
    let start = subst (λ q. IsStreaming q s.form [] [] s.pending) (sym version) (subst (λ q. IsStreaming v q [] [] s.pending) (sym same) begins) in
    let whole : IsNormalForm v form text closes.more =
    subst (λ q. IsNormalForm q form text closes.more) version (subst (λ q. IsNormalForm s.version q text closes.more) same (closes.whole [] [] start)) in
    closes.written ∙ ap (λ l. before ++ encode_utf8_all l) (normal_form_is v sound form text closes.more whole)
