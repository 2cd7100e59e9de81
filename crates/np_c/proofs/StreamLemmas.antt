-- Streams of handles: a text at a time, and bytes that begin with those of a character that was cut.
use Rattle.std.proofs.Common.{◌≡◌, ◌≢◌, ◌++◌, ◌∷◌, ◌+◌, ◌≤◌, ℕ, List, [], Bool, true, false, Option, Some, None, is_some, length, take, drop, map, chars, encode_utf8_all, IsUtf8, refl, sym, ap, ap₂, subst, ◌∙◌, inl, inr, arith, append_assoc, append-nil, length-append}
use Rattle.std.proofs.lemmas.Bool.{and_from, false≢true}
use Rattle.std.proofs.lemmas.List.{drop-append-le, take-append-drop}
use Rattle.std.proofs.lemmas.List.Folds.{list_all-append}
use Rattle.std.proofs.lemmas.Str.{IsUtf8-append, IsUtf8-nil, chars-append, chars-nil, encodes-append, encodes-chars}
use Rattle.std.proofs.Math.Seq.{drop-append-add}
use Rattle.std.specs.List.{list_all}
use Rattle.std.specs.Str.Lossy.{utf8_error_len}
use Rattle.np_code_points.specs.Text.{IsLongestValidPrefix}
use Rattle.np_code_points.specs.declared.forms.Form.{Form}
use Rattle.np_forms.specs.ApartStreams.{ApartState}
use Rattle.np_forms.specs.Assigned.{IsAssigned, IsFirstUnassigned}
use Rattle.np_forms.specs.Forms.{IsNormalForm}
use Rattle.np_forms.specs.StreamTexts.{Breaks, Writes}
use Rattle.np_forms.specs.Streams.{IsStreaming, StreamState}
use Rattle.np_forms.specs.Utf8Prefixes.{MayBegin, MayNotBegin}
use Rattle.np_forms.proofs.RunTextLemmas.{prefix_left, prefix_past, whole_prefix}
use Rattle.np_forms.proofs.TextLemmas.{assigned-both}
use Rattle.np_versions.specs.Versions.{VersionData, class_of, is_assigned}
use Rattle.np_c.specs.Statuses.{not_utf8_at}
use Rattle.np_c.specs.Streams.{HasCome, HasEnded, HasRead, IsAtFront, IsCutShort, IsFed, IsFeedAnswer, IsFirstOf, IsNoFront, IsTooLarge, IsWhole, StreamView}
use Rattle.np_c.specs.Texts.{IsFormOf}
use Rattle.np_c.specs.inside.Streams.{EndsText, FeedsChunk, FeedsText, FindsFirst, Overflows, StopsIn, TakesChunk}
use Rattle.np_c.specs.declared.answers.Answer.{Answer}
use Rattle.np_c.specs.declared.first_unassigned.FirstUnassigned.{FirstUnassigned}

-- ---- nothing came

nothing_cut : utf8_error_len [] ≡ None
unfolding utf8_error_len
nothing_cut = refl

pub at_front : (v : VersionData) (form : Form) (apart : ApartState) (cut ready : List ℕ) → cut ≡ [] → ready ≡ [] → apart.form ≡ form → IsStreaming v form [] [] apart.pending
    → IsAtFront v form (record { version = v; form = apart.form; pending = apart.pending; cut = cut; place = 0; ready = ready; first = None; is_finished = false })
at_front v form apart cut ready no_cut no_ready same begins =
    record {
      version = refl;
      form_is = same;
      unfinished = refl;
      nothing = record {
        text = [];
        split = sym no_cut;
        begins = subst (λ l. MayBegin l 0) (sym no_cut) (record { prefix = whole_prefix [] 0 refl IsUtf8-nil; begins = nothing_cut });
        reads = record {
          valid = IsUtf8-nil;
          place = refl;
          out = [];
          made = no_ready;
          streaming = subst (λ w. IsStreaming v w (chars []) [] apart.pending) (sym same) (subst (λ l. IsStreaming v form l [] apart.pending) (sym chars-nil) begins);
          first = ap (list_all (is_assigned v)) chars-nil;
        };
      };
    }

-- ---- a text came

-- a view by its parts
abbrev pub view : VersionData → ApartState → List ℕ → ℕ → List ℕ → Option FirstUnassigned → Bool → StreamView
view v apart cut place ready first done =
    record { version = v; form = apart.form; pending = apart.pending; cut = cut; place = place; ready = ready; first = first; is_finished = done }

-- a stream that was put together, and taken apart again
abbrev pub whole_of : VersionData → ApartState → StreamState
whole_of v apart = record { version = v; form = apart.form; ready = []; pending = apart.pending }

abbrev pub apart_of : StreamState → ApartState
apart_of s = record { form = s.form; pending = s.pending; classes = map (class_of s.version) s.pending }

module _ (v : VersionData) (apart after : ApartState) (old mid : StreamState) (ready made : List ℕ) (taken : ℕ) (is : old ≡ whole_of v apart) (again : after ≡ apart_of mid) (within : taken ≤ length ready)
    (cut : List ℕ) (place : ℕ) (first : Option FirstUnassigned) (done : Bool) where
  -- what was ready stands in front of what became ready
  grown : (more : List ℕ) → made ≡ ready ++ encode_utf8_all more → mid.form ≡ apart.form
      → view v after cut place (drop taken made) first done ≡ view v (record { form = apart.form; pending = after.pending; classes = after.classes }) cut place (drop taken ready ++ encode_utf8_all more) first done
  grown more written form =
      ap₂ (λ (f : Form) (r : List ℕ). view v (record { form = f; pending = after.pending; classes = after.classes }) cut place r first done)
      (ap (λ (a : ApartState). a.form) again ∙ form)
      (ap (drop taken) written ∙ drop-append-le taken ready (encode_utf8_all more) within)

  pub feeds_text : (text : List ℕ) → Writes old mid ready made text → FeedsText (view v apart cut place (drop taken ready) first done) (view v after cut place (drop taken made) first done) text
  feeds_text text wrote =
      let w : Writes (whole_of v apart) mid ready made text = subst (λ (o : StreamState). Writes o mid ready made text) is wrote in
      record {
        more = w.more;
        state = grown w.more w.written w.form;
        carries = λ fed out s. subst (IsStreaming v apart.form (fed ++ text) (out ++ w.more)) (ap (λ (a : ApartState). a.pending) (sym again)) (w.carries fed out s);
      }

  pub ends_text : Breaks old mid ready made → EndsText (view v apart cut place (drop taken ready) first done) (view v after cut place (drop taken made) first done)
  ends_text broke =
      let b : Breaks (whole_of v apart) mid ready made = subst (λ (o : StreamState). Breaks o mid ready made) is broke in
      record { more = b.ends.more; state = grown b.ends.more b.ends.written b.form; whole = b.ends.whole }

-- ---- the first code point that is not assigned

module _ (v : VersionData) (before text : List ℕ) (utf8 : IsUtf8 before) where
  all_assigned : IsAssigned v (chars before) → IsAssigned v (chars text) → IsAssigned v (chars (before ++ text))
  all_assigned = assigned-both v (before ++ text) before text utf8 refl

  found_behind : (at code : ℕ) → IsAssigned v (chars before) → IsFirstUnassigned v (chars text) at code → IsFirstUnassigned v (chars (before ++ text)) (length before + at) code
  found_behind at code all found =
      let joined = chars-append before text utf8 in
      record {
        before = chars before ++ found.before;
        after = found.after;
        split = joined ∙ ap (λ l. chars before ++ l) found.split ∙ sym (append_assoc (chars before) found.before (code ∷ found.after));
        assigned = list_all-append (is_assigned v) (chars before) found.before ∙ and_from _ _ all found.assigned;
        lacks = found.lacks;
        place =
            ap₂ (λ m n. m + n) (ap length (sym (encodes-chars before utf8))) found.place ∙ sym (length-append (encode_utf8_all (chars before)) (encode_utf8_all found.before))
            ∙ ap length (sym (encodes-append (chars before) found.before));
      }

  found_before : (at code : ℕ) → IsFirstUnassigned v (chars before) at code → IsFirstUnassigned v (chars (before ++ text)) at code
  found_before at code found =
      record {
        before = found.before;
        after = found.after ++ chars text;
        split = chars-append before text utf8 ∙ ap (λ l. l ++ chars text) found.split ∙ append_assoc found.before (code ∷ found.after) (chars text);
        assigned = found.assigned;
        lacks = found.lacks;
        place = found.place;
      }

  pub first_stays : (o : Option FirstUnassigned) → is_some o ≡ true → IsFirstOf v (chars before) o → IsFirstOf v (chars (before ++ text)) o
  first_stays (Some first) some is = found_before first.place first.code is
  first_stays None some is = absurd (false≢true some)

  pub none_yet : (o : Option FirstUnassigned) → is_some o ≡ false → IsFirstOf v (chars before) o → IsAssigned v (chars text) → IsAssigned v (chars (before ++ text))
  none_yet None none is all = all_assigned is all
  none_yet (Some first) none is all = absurd (false≢true (sym none))

  pub found_now : (o : Option FirstUnassigned) (place at code : ℕ) → is_some o ≡ false → IsFirstOf v (chars before) o → place ≡ length before → IsFirstUnassigned v (chars text) at code
      → IsFirstUnassigned v (chars (before ++ text)) (place + at) code
  found_now None place at code none is same found = subst (λ n. IsFirstUnassigned v (chars (before ++ text)) (n + at) code) (sym same) (found_behind at code is found)
  found_now (Some first) place at code none is same found = absurd (false≢true (sym none))

-- it stands within the text
pub first_within : (v : VersionData) (text : List ℕ) (at code : ℕ) → IsUtf8 text → IsFirstUnassigned v (chars text) at code → at ≤ length text
first_within v text at code utf8 found =
    let rest = encode_utf8_all (code ∷ found.after) in
    let whole : text ≡ encode_utf8_all found.before ++ rest = sym (encodes-chars text utf8) ∙ ap encode_utf8_all found.split ∙ encodes-append found.before (code ∷ found.after) in
    omega (arith, found.place, ap length whole, length-append (encode_utf8_all found.before) rest)

-- ---- a chunk came

-- behind what came a text came, and more of the form is ready
pub reads_more : (s m t : StreamView) (text next taken : List ℕ) (found : Option FirstUnassigned) → FeedsText s m (chars next)
    → t ≡ record m { cut = t.cut; place = s.place + length next; first = found } → IsUtf8 next → FindsFirst s next found → HasRead s text taken → HasRead t (text ++ next) taken
reads_more s m t text next taken found f is utf8 finds h =
    let to : StreamView = record m { cut = t.cut; place = s.place + length next; first = found } in
    let enc = encode_utf8_all f.more in
    let version : m.version ≡ s.version = ap (λ (x : StreamView). x.version) f.state in
    let form : m.form ≡ s.form = ap (λ (x : StreamView). x.form) f.state in
    let came : IsStreaming s.version s.form (chars (text ++ next)) (h.out ++ f.more) m.pending =
    subst (λ l. IsStreaming s.version s.form l (h.out ++ f.more) m.pending) (sym (chars-append text next h.valid)) (f.carries (chars text) h.out h.streaming) in
    let all : HasRead to (text ++ next) taken =
    record {
      valid = IsUtf8-append text next h.valid utf8;
      place = ap (λ n. n + length next) h.place ∙ sym (length-append text next);
      out = h.out ++ f.more;
      made =
          ap (λ l. taken ++ l) (ap (λ (x : StreamView). x.ready) f.state) ∙ sym (append_assoc taken s.ready enc) ∙ ap (λ l. l ++ enc) h.made
          ∙ sym (encodes-append h.out f.more);
      streaming =
          subst (λ w. IsStreaming w m.form (chars (text ++ next)) (h.out ++ f.more) m.pending) (sym version)
          (subst (λ w. IsStreaming s.version w (chars (text ++ next)) (h.out ++ f.more) m.pending) (sym form) came);
      first = subst (λ w. IsFirstOf w (chars (text ++ next)) found) (sym version) (finds text h.valid h.place h.first);
    } in
    subst (λ (x : StreamView). HasRead x (text ++ next) taken) (sym is) all

-- what follows the text of a chunk may begin a character
begins_behind : (chunk : List ℕ) (n : ℕ) → MayBegin chunk n → MayBegin (drop n chunk) 0
begins_behind chunk n h = record { prefix = prefix_left chunk n h.prefix; begins = h.begins }

-- a chunk that stops behind a text stops there
stops_behind : (text chunk : List ℕ) (n : ℕ) → IsUtf8 text → MayNotBegin chunk n → MayNotBegin (text ++ chunk) (length text + n)
stops_behind text chunk n utf8 h =
    record { prefix = prefix_past text chunk n utf8 h.prefix; ends = λ none. h.ends (sym (ap utf8_error_len (drop-append-add text chunk n)) ∙ none) }

module _ (s t : StreamView) (piece : List ℕ) (a : Answer) (unfinished : s.is_finished ≡ false) where
  fed : TakesChunk s t (s.cut ++ piece) a → IsFed s t piece a
  fed h =
      let chunk = s.cut ++ piece in
      record {
        answer = h.answer;
        version = h.version;
        form = h.form;
        unfinished = h.unfinished;
        carries = λ fed taken came.
            record {
              text = came.text ++ take h.n chunk;
              split =
                  ap (λ l. l ++ piece) came.split ∙ append_assoc came.text s.cut piece ∙ ap (λ l. came.text ++ l) (sym (take-append-drop h.n chunk))
                  ∙ sym (append_assoc came.text (take h.n chunk) (drop h.n chunk)) ∙ ap (λ l. (came.text ++ take h.n chunk) ++ l) (sym h.cut);
              begins = subst (λ l. MayBegin l 0) (sym h.cut) (begins_behind chunk h.n h.begins);
              reads = h.reads came.text taken came.reads;
            };
      }

  no_front : StopsIn s t (s.cut ++ piece) a → IsNoFront s t piece a
  no_front h =
      record {
        place = s.place + h.n;
        answer = h.answer;
        same = h.same;
        stops = λ fed taken came.
            let all : fed ++ piece ≡ came.text ++ (s.cut ++ piece) = ap (λ l. l ++ piece) came.split ∙ append_assoc came.text s.cut piece in
            subst (λ l. MayNotBegin l (s.place + h.n)) (sym all)
            (subst (λ n. MayNotBegin (came.text ++ (s.cut ++ piece)) (n + h.n)) (sym came.reads.place) (stops_behind came.text (s.cut ++ piece) h.n came.reads.valid h.stops));
      }

  too_large : Overflows s t (s.cut ++ piece) a → IsTooLarge s t piece a
  too_large h =
      record {
        answer = h.answer;
        same = h.same;
        large = λ fed taken came.
            let all : fed ++ piece ≡ came.text ++ (s.cut ++ piece) = ap (λ l. l ++ piece) came.split ∙ append_assoc came.text s.cut piece in
            let long = ap length all ∙ length-append came.text (s.cut ++ piece) in
            omega (arith, h.large, long, came.reads.place);
      }

  -- a chunk that begins with what was cut
  pub feed_answer : FeedsChunk s t (s.cut ++ piece) a → IsFeedAnswer s t piece a
  feed_answer (inl h) = inr (unfinished, inl (fed h))
  feed_answer (inr (inl h)) = inr (unfinished, inr (inl (no_front h)))
  feed_answer (inr (inr (inl h))) = inr (unfinished, inr (inr (inl (too_large h))))
  feed_answer (inr (inr (inr h))) = inr (unfinished, inr (inr (inr h)))

-- ---- the text ended

-- within a character
pub cut_short : (s t : StreamView) (a : Answer) → a ≡ not_utf8_at s.place → t ≡ s → s.cut ≢ [] → IsCutShort s t a
cut_short s t a answer same some =
    record {
      answer = answer;
      same = same;
      some = some;
      stops = λ fed taken came.
          let long : length came.text + 0 ≡ s.place = omega (arith, came.reads.place) in
          subst (λ l. IsLongestValidPrefix l s.place) (sym came.split)
          (subst (IsLongestValidPrefix (came.text ++ s.cut)) long (prefix_past came.text s.cut 0 came.reads.valid came.begins.prefix));
    }

module _ (s m t : StreamView) (nothing : s.cut ≡ []) (e : EndsText s m) (is : t ≡ record m { is_finished = true }) (fed taken : List ℕ) (came : HasCome s fed taken) where
  to : StreamView
  to = record m { is_finished = true }

  all : fed ≡ came.text
  all = came.split ∙ ap (λ l. came.text ++ l) nothing ∙ append-nil came.text

  formed : IsFormOf m.version m.form fed (taken ++ m.ready)
  formed =
      let enc = encode_utf8_all e.more in
      let version : m.version ≡ s.version = ap (λ (x : StreamView). x.version) e.state in
      let form : m.form ≡ s.form = ap (λ (x : StreamView). x.form) e.state in
      let normal : IsNormalForm s.version s.form (chars came.text) (came.reads.out ++ e.more) = e.whole (chars came.text) came.reads.out came.reads.streaming in
      record {
        valid = subst IsUtf8 (sym all) came.reads.valid;
        codes = came.reads.out ++ e.more;
        is =
            subst (λ l. IsNormalForm m.version m.form (chars l) (came.reads.out ++ e.more)) (sym all)
            (subst (λ w. IsNormalForm w m.form (chars came.text) (came.reads.out ++ e.more)) (sym version)
            (subst (λ w. IsNormalForm s.version w (chars came.text) (came.reads.out ++ e.more)) (sym form) normal));
        bytes_are =
            ap (λ l. taken ++ l) (ap (λ (x : StreamView). x.ready) e.state) ∙ sym (append_assoc taken s.ready enc) ∙ ap (λ l. l ++ enc) came.reads.made
            ∙ sym (encodes-append came.reads.out e.more);
      }

  pub has_ended : HasEnded t fed taken
  has_ended = subst (λ (x : StreamView). HasEnded x fed taken) (sym is) (record { finished = refl; form = formed })

  whole_by : (o : Option FirstUnassigned) → IsFirstOf s.version (chars came.text) o → IsWhole (record m { is_finished = true }) fed taken o
  whole_by None assigned =
      let version : m.version ≡ s.version = ap (λ (x : StreamView). x.version) e.state in
      record { assigned = subst (λ w. IsAssigned w (chars fed)) (sym version) (subst (λ l. IsAssigned s.version (chars l)) (sym all) assigned); is = formed }
  whole_by (Some first) found =
      let version : m.version ≡ s.version = ap (λ (x : StreamView). x.version) e.state in
      subst (λ w. IsFirstUnassigned w (chars fed) first.place first.code) (sym version) (subst (λ l. IsFirstUnassigned s.version (chars l) first.place first.code) (sym all) found)

  pub is_whole : IsWhole t fed taken s.first
  is_whole = subst (λ (x : StreamView). IsWhole x fed taken s.first) (sym is) (whole_by s.first came.reads.first)
