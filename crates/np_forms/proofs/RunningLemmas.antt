-- A run over a whole input, chunk by chunk.
use Rattle.std.proofs.Common.{◌≡◌, ℕ, ◌+◌, ◌<◌, ◌≤◌, ◌⊎◌, List, [], ◌++◌, length, take, drop, chars, encode_utf8_all, flat_map, IsUtf8, Option, Result, refl, sym, ap, subst, ◌∙◌, arith, inl, inr, append_assoc, append-nil, length-append, false, true, Ok, Err}
use Rattle.std.specs.Result.{OnOk, is_ok}
use Rattle.std.proofs.lemmas.Bool.{both_ways}
use Rattle.std.proofs.KnownBytes.{Appends-nil, Appends-trans, Consumes-nil, Consumes-trans}
use Rattle.np_forms.proofs.Words.{flat_map-append, length-take-le, nil_from_length, take_all, take-append-drop, drop_at, drop-drop, chars-nil, chars-append, IsUtf8-nil}
use Rattle.np_forms.proofs.Words.{encodes-append, IsUtf8-append, utf8_valid_len, utf8_error_len, is_compat, composes, Form, IsSound, VersionData, class_of}
use Rattle.np_forms.proofs.Words.{full_of, IsNormalForm, IsStreaming, StreamState, canonical_order, decomposed, ended, normal_form, IsRunning}
use Rattle.np_forms.proofs.Words.{MayNotBegin, IsNextChunk, IsInputFault, IsPieceWritten, IsPieceCut, IsRestWritten, IsRestCut, Stops}
use Rattle.np_forms.specs.inside.Running.{IsChunkFault, IsInputCause}
use Rattle.std.specs.Io.KnownBytes.{Appends, Consumes, IsAtEnd}
use Rattle.np_code_points.specs.Text.{IsLongestValidPrefix}
use Rattle.np_forms.specs.RunEnds.{BeginsText, Ends, IsRunWhole, IsCauseOf, IsFrontOfForm, IsWrittenOf, IsRunCut, RunEnds}
use Rattle.np_forms.specs.declared.runs.RunFault.{RunFault}
use Rattle.np_forms.specs.declared.runs.RunFault.TheVariants.{NotUtf8, ReadFailed, WriteFailed, TooLarge, Memory}
use Rattle.np_forms.proofs.FormLemmas.{IsNormalForm-normal_form, normal_form_is}
use Rattle.np_forms.proofs.HeldLemmas.{held_streaming}
use Rattle.np_forms.proofs.WrittenLemmas.{under}
use Rattle.np_forms.proofs.RunTextLemmas.{take_past, prefix_past, prefix_left, one_prefix, longest_prefix, whole_prefix}

abbrev pub ends_of : Option (List ℕ) → Option (List ℕ) → Option (List ℕ) → Option (List ℕ) → Ends
ends_of i₀ i₁ o₀ o₁ = record { in_before = i₀; in_after = i₁; out_before = o₀; out_after = o₁ }

pub ok_on : {T E : Type 0} (r : Result T E) (P : Type 0) → OnOk r P → is_ok r ≡ true → P
ok_on (Ok x) P h ok = h
ok_on (Err e) P h ok = absurd (both_ways false refl ok)

-- want of memory behind what was read
pub input_memory : (i₀ i₁ : Option (List ℕ)) (kept piece : List ℕ) (total n : ℕ) → Consumes i₀ i₁ (take n piece) → n ≤ length piece → total + n ≤ 4294967296 → IsInputFault i₀ i₁ kept total Memory
input_memory i₀ i₁ kept piece total n taken within size = record { came = take n piece; taken = taken; size = omega (arith, within, size, length-take-le n piece within); cause = tt }

-- nothing more came
pub input_failed : (i₀ i₁ : Option (List ℕ)) (kept : List ℕ) (total : ℕ) → Consumes i₀ i₁ [] → total ≤ 4294967295 → IsInputFault i₀ i₁ kept total ReadFailed
input_failed i₀ i₁ kept total taken fits = record { came = []; taken = taken; size = omega (arith, fits); cause = refl }

cause_of : (kept came : List ℕ) (total : ℕ) (fault : RunFault) → IsChunkFault (kept ++ came) (total + length came) fault → IsInputCause kept came total fault
cause_of kept came total (NotUtf8 place) h = h
cause_of kept came total ReadFailed h = absurd h.cause
cause_of kept came total WriteFailed h = h.cause
cause_of kept came total TooLarge h = h
cause_of kept came total Memory h = tt

-- a chunk that is no text
pub input_cut : (i₀ i₁ : Option (List ℕ)) (kept piece chunk : List ℕ) (total n : ℕ) (fault : RunFault) → Consumes i₀ i₁ (take n piece) → n ≤ length piece → total + n ≤ 4294967296 → chunk ≡ kept ++ take n piece →
    IsChunkFault chunk (total + n) fault → IsInputFault i₀ i₁ kept total fault
input_cut i₀ i₁ kept piece chunk total n fault taken within size is h =
    let len = length-take-le n piece within in
    let all : IsChunkFault (kept ++ take n piece) (total + length (take n piece)) fault = subst (λ k. IsChunkFault (kept ++ take n piece) (total + k) fault) (sym len) (subst (λ l. IsChunkFault l (total + n) fault) is h) in
    record { came = take n piece; taken = taken; size = omega (arith, size, len); cause = cause_of kept (take n piece) total fault all }

-- a chunk of which some bytes are a text
pub chunk_next : (i₀ i₁ : Option (List ℕ)) (kept piece chunk left : List ℕ) (total n text : ℕ) → Consumes i₀ i₁ (take n piece) → n ≤ length piece → 0 < n → chunk ≡ kept ++ take n piece → IsLongestValidPrefix chunk text →
    left ≡ drop text chunk ++ [] → total + n ≤ 4294967295 → IsNextChunk i₀ i₁ kept chunk left total (total + n) text
chunk_next i₀ i₁ kept piece chunk left total n text taken within some is prefix of_left fits =
    let len = length-take-le n piece within in
    record {
      came = take n piece;
      some = omega (arith, some, len);
      taken = taken;
      chunk_is = is;
      prefix = prefix;
      left_is = of_left ∙ append-nil (drop text chunk);
      total_is = ap (λ k. total + k) (sym len);
      fits = fits;
    }

-- what follows the longest prefix of a text and of what follows it
left_past : (a b : List ℕ) (n : ℕ) → IsUtf8 a → IsLongestValidPrefix b n → drop (utf8_valid_len (a ++ b)) (a ++ b) ≡ drop n b
left_past a b n utf8 h = ap (λ k. drop k (a ++ b)) (one_prefix (a ++ b) (length a + n) (prefix_past a b n utf8 h)) ∙ sym (drop-drop n (length a) (a ++ b)) ∙ ap (drop n) (drop_at a b (length a) refl)

not_begins_past : (a b : List ℕ) (n : ℕ) (text : List ℕ) → IsUtf8 a → MayNotBegin b n → text ≡ a ++ b → ¬ BeginsText text
not_begins_past a b n text utf8 h is = λ begins. h.ends (ap utf8_error_len (sym (left_past a b n utf8 h.prefix)) ∙ subst BeginsText is begins)

module _ {v : VersionData} (sound : IsSound v) where
  -- these first bytes of what is ready
  ready_front : (list ready rest out behind : List ℕ) → list ≡ ready ++ rest → encode_utf8_all ready ≡ out ++ behind → IsFrontOfForm list out
  ready_front list ready rest out behind is of_ready =
      record {
        rest = behind ++ encode_utf8_all rest;
        split = ap encode_utf8_all is ∙ encodes-append ready rest ∙ ap (λ l. l ++ encode_utf8_all rest) of_ready ∙ append_assoc out behind (encode_utf8_all rest);
      }

  module _ {form : Form} {i₀ i₁ o₀ o₁ : Option (List ℕ)} {kept : List ℕ} {total count : ℕ} {s : StreamState} (r : IsRunning v form i₀ i₁ o₀ o₁ kept total count s) where
    taken_with : (i₂ : Option (List ℕ)) (came : List ℕ) → Consumes i₁ i₂ came → Consumes i₀ i₂ (r.done ++ (kept ++ came))
    taken_with i₂ came taken = subst (Consumes i₀ i₂) (append_assoc r.done kept came) (Consumes-trans i₀ i₁ i₂ (r.done ++ kept) came r.taken taken)

    -- the stream under the version and the form that it has
    fed : IsStreaming s.version s.form (chars r.done) r.ready s.pending
    fed = under (λ u f. IsStreaming u f (chars r.done) r.ready s.pending) (sym r.version) (sym r.form_is) r.streaming

    -- nothing more came
    pub still : {i₂ : Option (List ℕ)} {left : List ℕ} {new : ℕ} → Consumes i₁ i₂ [] → left ≡ kept → new ≡ total → IsRunning v form i₀ i₂ o₀ o₁ left new count s
    still {i₂} {left} {new} taken same size =
        record {
          done = r.done;
          taken = subst (λ l. Consumes i₀ i₂ (r.done ++ l)) (append-nil kept ∙ sym same) (taken_with i₂ [] taken);
          utf8 = r.utf8;
          cut = subst (λ l. IsLongestValidPrefix l 0) (sym same) r.cut;
          size = omega (arith, r.size, size, ap length same);
          ready = r.ready;
          written = r.written;
          count_is = r.count_is;
          streaming = r.streaming;
          version = r.version;
          form_is = r.form_is;
          moved = r.moved;
        }

    -- where nothing of the last chunk was fed
    unfed : normal_form v form (chars r.done ++ chars (take 0 kept)) ≡ normal_form v form (chars r.done)
    unfed = ap (normal_form v form) (ap (λ l. chars r.done ++ l) chars-nil ∙ append-nil (chars r.done))

    -- what was ready begins the form
    ready_begins : (text : List ℕ) → IsFrontOfForm (normal_form v form (chars r.done ++ text)) (encode_utf8_all r.ready)
    unfolding normal_form decomposed
    ready_begins text =
        let each = full_of v (is_compat form) in
        let rest = ended v (composes form) (canonical_order (class_of v) (s.pending ++ flat_map each text)) in
        let held = held_streaming v sound form (chars r.done) r.ready s.pending r.streaming in
        let is = ap (λ l. ended v (composes form) (canonical_order (class_of v) l)) (flat_map-append each (chars r.done) text) ∙ held.goes_on (flat_map each text) in
        ready_front _ r.ready rest (encode_utf8_all r.ready) [] is (sym (append-nil (encode_utf8_all r.ready)))

    module _ (i₂ o₂ : Option (List ℕ)) (chunk : List ℕ) (n : ℕ) (taken : Consumes i₀ i₂ (r.done ++ chunk)) (h : IsLongestValidPrefix chunk n) (size : length r.done + length chunk ≤ 4294967296) where
      cut_at : (fault : RunFault) (out : List ℕ) → IsCauseOf (ends_of i₀ i₂ o₀ o₂) (r.done ++ chunk) (length r.done + n) fault → Appends o₀ o₂ out →
          IsWrittenOf v (normal_form v form (chars r.done ++ chars (take n chunk))) out fault → IsRunCut v form (ends_of i₀ i₂ o₀ o₂) fault
      cut_at fault out cause written front =
          let list = normal_form v form (chars r.done ++ chars (take n chunk)) in
          let text : chars (take (length r.done + n) (r.done ++ chunk)) ≡ chars r.done ++ chars (take n chunk) = ap chars (take_past r.done chunk n) ∙ chars-append r.done (take n chunk) r.utf8 in
          record {
            bytes = r.done ++ chunk;
            at = length r.done + n;
            list = list;
            read = record {
              taken = taken;
              size = omega (arith, length-append r.done chunk);
              valid = prefix_past r.done chunk n r.utf8 h;
              normal = subst (λ l. IsNormalForm v form l list) (sym text) (IsNormalForm-normal_form v sound form _);
            };
            cause = cause;
            out = out;
            written = written;
            front = front;
          }

      -- what became ready was written in part, or nothing more was written
      cut_in_part : (fault : RunFault) → (fault ≡ WriteFailed) ⊎ (fault ≡ Memory) → (out : List ℕ) → Appends o₁ o₂ out →
          (out ≡ []) ⊎ ((more : List ℕ) × ((rest : List ℕ) × (encode_utf8_all more ≡ out ++ rest) × ((after : List ℕ) × (normal_form v form (chars r.done ++ chars (take n chunk)) ≡ (r.ready ++ more) ++ after)))) →
          IsRunCut v form (ends_of i₀ i₂ o₀ o₂) fault
      cut_in_part fault by out written parts =
          let old = encode_utf8_all r.ready in
          let list = normal_form v form (chars r.done ++ chars (take n chunk)) in
          let front : IsFrontOfForm list (old ++ out) =
          elim parts [
            | inl none ↦ subst (IsFrontOfForm list) (sym (ap (λ l. old ++ l) none ∙ append-nil old)) (ready_begins (chars (take n chunk)))
            | inr some ↦
                let bytes = encodes-append r.ready some.0 ∙ ap (λ l. old ++ l) some.1.1 ∙ sym (append_assoc old out some.1.0) in
                ready_front list (r.ready ++ some.0) some.1.2.0 (old ++ out) some.1.0 some.1.2.1 bytes
          ] in
          let all = Appends-trans o₀ o₁ o₂ old out r.written written in
          elim by [
            | inl write ↦ subst (IsRunCut v form (ends_of i₀ i₂ o₀ o₂)) (sym write) (cut_at WriteFailed (old ++ out) tt all front)
            | inr none ↦ subst (IsRunCut v form (ends_of i₀ i₂ o₀ o₂)) (sym none) (cut_at Memory (old ++ out) tt all front)
          ]

    -- nothing more was fed or written
    cut_early : (i₂ : Option (List ℕ)) (came : List ℕ) (n : ℕ) (fault : RunFault) → Consumes i₁ i₂ came → IsLongestValidPrefix (kept ++ came) n → total + length came ≤ 4294967296 → IsCauseOf (ends_of i₀ i₂ o₀ o₁) (r.done ++ (kept ++ came)) (length r.done + n) fault → ((list out : List ℕ) → IsFrontOfForm list out → IsWrittenOf v list out fault) → IsRunCut v form (ends_of i₀ i₂ o₀ o₁) fault
    cut_early i₂ came n fault taken h size cause written =
        cut_at i₂ o₁ (kept ++ came) n (taken_with i₂ came taken) h (omega (arith, r.size, length-append kept came))
        fault (encode_utf8_all r.ready) cause r.written (written _ _ (ready_begins (chars (take n (kept ++ came)))))

    -- a failed read: all of the text was fed, and all that is ready is written
    cut_read : (i₂ : Option (List ℕ)) → Consumes i₁ i₂ [] → total ≤ 4294967296 → IsRunCut v form (ends_of i₀ i₂ o₀ o₁) ReadFailed
    cut_read i₂ taken size =
        let all = subst (λ l. Consumes i₀ i₂ (r.done ++ l)) (append-nil kept) (taken_with i₂ [] taken) in
        let streaming = r.streaming in
        let list = unfed ∙ sym (normal_form_is v sound form (chars r.done) (r.ready ++ streaming.held) streaming.whole) in
        cut_at i₂ o₁ kept 0 all r.cut (omega (arith, r.size))
        ReadFailed (encode_utf8_all r.ready) tt r.written (record { x = r.ready; y = streaming.held; split = list; cut = streaming.cut; out_is = refl })

    pub cut_input : (i₂ : Option (List ℕ)) (fault : RunFault) → IsInputFault i₁ i₂ kept total fault → IsRunCut v form (ends_of i₀ i₂ o₀ o₁) fault
    cut_input i₂ (NotUtf8 place) f =
        let chunk = kept ++ f.came in
        let n = f.cause.n in
        let sizes = length-append kept f.came in
        let all = length-append r.done chunk in
        cut_early i₂ f.came n (NotUtf8 place) f.taken f.cause.prefix f.size (
          omega (arith, r.size, f.cause.cause.0, sizes),
          elim f.cause.cause.1 [
            | inl whole ↦
                let none = not_begins_past r.done chunk n _ r.utf8 whole.1 (take_all (length (r.done ++ chunk)) (r.done ++ chunk) (omega arith)) in
                inl (length (r.done ++ chunk), omega (arith, whole.0, r.size, sizes, all), omega arith, none)
            | inr past ↦
                let none = not_begins_past r.done (take past.1.m chunk) past.1.k _ r.utf8 past.1.front (take_past r.done chunk past.1.m) in
                inl (length r.done + past.1.m, omega (arith, past.0, past.1.size, r.size, sizes), omega (arith, past.1.size, all), none)
          ],
        )
        (λ list out h. h)
    cut_input i₂ ReadFailed f = cut_read i₂ (subst (Consumes i₁ i₂) f.cause f.taken) (omega (arith, f.size))
    cut_input i₂ WriteFailed f = absurd f.cause
    cut_input i₂ TooLarge f =
        let chunk = kept ++ f.came in
        let n = f.cause.n in
        let sizes = length-append kept f.came in
        let large = f.cause.cause in
        let last : length r.done + large.1.m ≡ 4294967295 = omega (arith, large.0, large.1.size, r.size, sizes) in
        cut_early i₂ f.came n TooLarge f.taken f.cause.prefix f.size (
          omega (arith, large.0, r.size, sizes, length-append r.done chunk),
          subst BeginsText (sym (take_past r.done chunk large.1.m) ∙ ap (λ k. take k (r.done ++ chunk)) last)
              (ap utf8_error_len (left_past r.done (take large.1.m chunk) large.1.k r.utf8 large.1.front.prefix) ∙ large.1.front.begins),
        )
        (λ list out h. h)
    cut_input i₂ Memory f = cut_early i₂ f.came (utf8_valid_len (kept ++ f.came)) Memory f.taken (longest_prefix (kept ++ f.came)) f.size tt (λ list out h. h)

    -- the end of the input within a character
    pub cut_end : (place : ℕ) → place + length kept ≡ total → 0 < length kept → total ≤ 4294967295 → IsAtEnd i₁ → IsRunCut v form (ends_of i₀ i₁ o₀ o₁) (NotUtf8 place)
    cut_end place here some fits end =
        let whole = prefix_past r.done kept 0 r.utf8 r.cut in
        let all = length-append r.done kept in
        let no_text = λ (utf8 : IsUtf8 (r.done ++ kept)).
        let most = whole.longest (length (r.done ++ kept)) (omega arith) (subst IsUtf8 (sym (take_all (length (r.done ++ kept)) (r.done ++ kept) (omega arith))) utf8) in
        absurd (omega (arith, most, all)) in
        cut_at i₁ o₁ kept 0 r.taken r.cut (omega (arith, r.size))
        (NotUtf8 place) (encode_utf8_all r.ready) (omega (arith, r.size), inr (end, omega (arith, r.size, all), no_text)) r.written (ready_begins (chars (take 0 kept)))

    -- the rest was written in part
    pub cut_rest : {o₂ : Option (List ℕ)} {fault : RunFault} → total ≤ 4294967295 → (fault ≡ WriteFailed) ⊎ (fault ≡ Memory) → IsRestCut s o₁ o₂ → IsRunCut v form (ends_of i₀ i₁ o₀ o₂) fault
    cut_rest {o₂} {fault} fits by w =
        cut_in_part i₁ o₂ kept 0 r.taken r.cut (omega (arith, r.size)) fault by w.out w.written
        (elim w.front [
          | inl none ↦ inl none
          | inr some ↦
              let whole = under (λ u f. IsNormalForm u f (chars r.done) (r.ready ++ some.0)) r.version r.form_is (some.1.2 (chars r.done) r.ready fed) in
              inr (some.0, (some.1.0, some.1.1, ([], unfed ∙ sym (append-nil (r.ready ++ some.0) ∙ normal_form_is v sound form (chars r.done) (r.ready ++ some.0) whole))))
        ])

    -- no byte is left, and the rest was written
    pub run_whole : {o₂ : Option (List ℕ)} {after : ℕ} → length kept ≡ 0 → IsAtEnd i₁ → total ≤ 4294967295 → IsRestWritten s o₁ o₂ count after → IsRunWhole v form (ends_of i₀ i₁ o₀ o₂) after
    run_whole {o₂} {after} none end fits w =
        record {
          bytes = r.done;
          taken = subst (Consumes i₀ i₁) (ap (λ l. r.done ++ l) (nil_from_length kept none) ∙ append-nil r.done) r.taken;
          end = end;
          size = omega (arith, r.size, none);
          utf8 = r.utf8;
          list = r.ready ++ w.more;
          normal = under (λ u f. IsNormalForm u f (chars r.done) (r.ready ++ w.more)) r.version r.form_is (w.whole (chars r.done) r.ready fed);
          written = subst (Appends o₀ o₂) (sym (encodes-append r.ready w.more)) (Appends-trans o₀ o₁ o₂ (encode_utf8_all r.ready) (encode_utf8_all w.more) r.written w.written);
          count_is = omega (arith, w.count_is, r.count_is, ap length (encodes-append r.ready w.more), length-append (encode_utf8_all r.ready) (encode_utf8_all w.more));
        }

    module _ {i₂ : Option (List ℕ)} {chunk left : List ℕ} {new n : ℕ} (next : IsNextChunk i₁ i₂ kept chunk left total new n) {l : List ℕ} (text_is : l ≡ take n chunk) where
      taken_chunk : Consumes i₀ i₂ (r.done ++ chunk)
      taken_chunk = subst (λ l. Consumes i₀ i₂ (r.done ++ l)) (sym next.chunk_is) (taken_with i₂ next.came next.taken)

      chunk_size : length r.done + length chunk ≡ new
      chunk_size = omega (arith, r.size, next.total_is, ap length next.chunk_is, length-append kept next.came)

      -- the text of the chunk was fed and written
      pub step : {o₂ : Option (List ℕ)} {after : ℕ} {t : StreamState} → IsPieceWritten s t o₁ o₂ count after (chars l) → IsRunning v form i₀ i₂ o₀ o₂ left new after t
      step {o₂} {after} {t} written =
          let w = subst (λ x. IsPieceWritten s t o₁ o₂ count after (chars x)) text_is written in
          let parts : take n chunk ++ left ≡ chunk = ap (λ l. take n chunk ++ l) next.left_is ∙ take-append-drop n chunk in
          let done = r.done ++ take n chunk in
          let streaming = under (λ u f. IsStreaming u f (chars r.done ++ chars (take n chunk)) (r.ready ++ w.more) t.pending) r.version r.form_is (w.carries (chars r.done) r.ready fed) in
          record {
            done = done;
            taken = subst (Consumes i₀ i₂) (sym (append_assoc r.done (take n chunk) left ∙ ap (λ l. r.done ++ l) parts)) taken_chunk;
            utf8 = IsUtf8-append r.done (take n chunk) r.utf8 next.prefix.valid;
            cut = subst (λ l. IsLongestValidPrefix l 0) (sym next.left_is) (prefix_left chunk n next.prefix);
            size = omega (arith, chunk_size, ap length parts, length-append (take n chunk) left, length-append r.done (take n chunk));
            ready = r.ready ++ w.more;
            written = subst (Appends o₀ o₂) (sym (encodes-append r.ready w.more)) (Appends-trans o₀ o₁ o₂ (encode_utf8_all r.ready) (encode_utf8_all w.more) r.written w.written);
            count_is = omega (arith, w.count_is, r.count_is, ap length (encodes-append r.ready w.more), length-append (encode_utf8_all r.ready) (encode_utf8_all w.more));
            streaming = subst (λ l. IsStreaming v form l (r.ready ++ w.more) t.pending) (sym (chars-append r.done (take n chunk) r.utf8)) streaming;
            version = w.version ∙ r.version;
            form_is = w.form ∙ r.form_is;
            moved = w.moved;
          }

      -- it was fed or written in part
      pub cut_piece : {o₂ : Option (List ℕ)} {fault : RunFault} → (fault ≡ WriteFailed) ⊎ (fault ≡ Memory) → IsPieceCut s o₁ o₂ (chars l) → IsRunCut v form (ends_of i₀ i₂ o₀ o₂) fault
      cut_piece {o₂} {fault} by cut =
          let w = subst (λ x. IsPieceCut s o₁ o₂ (chars x)) text_is cut in
          let text = chars r.done ++ chars (take n chunk) in
          cut_in_part i₂ o₂ chunk n taken_chunk next.prefix (omega (arith, chunk_size, next.fits)) fault by w.out w.written
          (elim w.front [
            | inl none ↦ inl none
            | inr some ↦
                let later = some.1.2 (chars r.done) r.ready fed in
                let streaming = under (λ u f. IsStreaming u f text (r.ready ++ some.0) later.0) r.version r.form_is later.1 in
                inr (some.0, (some.1.0, some.1.1, (streaming.held, sym (normal_form_is v sound form text ((r.ready ++ some.0) ++ streaming.held) streaming.whole))))
          ])

  -- nothing was read or written
  pub run_start : (form : Form) (i₀ o₀ : Option (List ℕ)) (s : StreamState) → s.version ≡ v → s.form ≡ form → s.ready ≡ [] → IsStreaming v form [] [] s.pending → IsRunning v form i₀ i₀ o₀ o₀ [] 0 0 s
  run_start form i₀ o₀ s version same moved begins =
      record {
        done = [];
        taken = Consumes-nil i₀;
        utf8 = IsUtf8-nil;
        cut = whole_prefix [] 0 refl IsUtf8-nil;
        size = omega arith;
        ready = [];
        written = Appends-nil o₀;
        count_is = refl;
        streaming = subst (λ l. IsStreaming v form l [] s.pending) (sym chars-nil) begins;
        version = version;
        form_is = same;
        moved = moved;
      }

  -- ---- from the begin

  module _ {form : Form} {i i' o o' : Option (List ℕ)} {s : StreamState} (same_in : i' ≡ i) (same_out : o' ≡ o) (version : s.version ≡ v) (form_is : s.form ≡ form) (moved : s.ready ≡ []) (begins : IsStreaming v form [] [] s.pending) where
    -- want of memory before the first read
    pub cut_start : IsRunCut v form (ends_of i i' o o') Memory
    cut_start =
        subst (λ x. IsRunCut v form (ends_of x i' o o') Memory) same_in
        (subst (λ x. IsRunCut v form (ends_of i' i' x o') Memory) same_out
        (cut_input (run_start form i' o' s version form_is moved begins) i' Memory (record { came = []; taken = Consumes-nil i'; size = omega arith; cause = tt })))

    -- a whole run
    pub run_all : {kept : List ℕ} {total : ℕ} → kept ≡ [] → total ≡ 0 → (i₂ o₂ : Option (List ℕ)) (result : Result ℕ RunFault) → Stops s i' i₂ o' o₂ kept total 0 result → RunEnds v form (ends_of i i₂ o o₂) result
    run_all {kept} {total} none zero_read i₂ o₂ result stops =
        let start = run_start form i' o' s version form_is moved begins in
        let begun : IsRunning s.version form i' i' o' o' kept total 0 s =
        subst (λ n. IsRunning s.version form i' i' o' o' kept n 0 s) (sym zero_read)
        (subst (λ l. IsRunning s.version form i' i' o' o' l 0 0 s) (sym none) (subst (λ u. IsRunning u form i' i' o' o' [] 0 0 s) (sym version) start)) in
        subst (λ u. RunEnds u form (ends_of i i₂ o o₂) result) version
        (subst (λ x. RunEnds s.version form (ends_of x i₂ o o₂) result) same_in
        (subst (λ x. RunEnds s.version form (ends_of i' i₂ x o₂) result) same_out (stops form i' o' begun)))
