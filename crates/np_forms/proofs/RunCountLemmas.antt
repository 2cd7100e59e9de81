-- A run counts what it writes: the form of what may be read has no more bytes than its count may tell.
use Rattle.std.proofs.Common.{◌≡◌, ℕ, ◌+◌, ◌≤◌, List, [], ◌++◌, length, chars, encode_utf8_all, IsUtf8, Option, refl, sym, ap, subst, ◌∙◌, arith, append-nil, length-append}
use Rattle.np_forms.proofs.Words.{chars-nil, encodes-append, encodes-chars, length-le-encodes}
use Rattle.np_forms.proofs.Words.{IsNormalForm, IsStreaming, StreamState, IsSound, VersionData, Form, Closes, Writes, IsPieceWritten}
use Rattle.np_forms.specs.inside.Running.{IsCounted}
use Rattle.np_forms.proofs.FormLemmas.{length-encodes, length-normal_form}
use Rattle.np_forms.proofs.WrittenLemmas.{under}

-- the bytes of a text are at least as many as its code points
length-chars : (text : List ℕ) → IsUtf8 text → length (chars text) ≤ length text
length-chars text utf8 = omega (arith, length-le-encodes (chars text), ap length (encodes-chars text utf8))

-- nothing was fed or written
pub counted-start : (v : VersionData) (form : Form) (s : StreamState) → s.version ≡ v → s.form ≡ form → IsStreaming v form [] [] s.pending → IsCounted s 0 0
counted-start v form s version same begins =
    record { fed = []; ready = []; few = omega arith; streaming = under (λ u f. IsStreaming u f [] [] s.pending) (sym version) (sym same) begins; count_is = refl }

module _ {s : StreamState} {most count : ℕ} (c : IsCounted s most count) where
  pub counted-more : (n : ℕ) → most ≤ n → IsCounted s n count
  counted-more n le = record { fed = c.fed; ready = c.ready; few = omega (arith, c.few, le); streaming = c.streaming; count_is = c.count_is }

  -- a text was fed, and what became ready was written
  pub counted-piece : {t : StreamState} {o₁ o₂ : Option (List ℕ)} {after : ℕ} (text : List ℕ) → IsUtf8 text → IsPieceWritten s t o₁ o₂ count after (chars text) → IsCounted t (most + length text) after
  counted-piece {t} {o₁} {o₂} {after} text utf8 w =
      record {
        fed = c.fed ++ chars text;
        ready = c.ready ++ w.more;
        few = omega (arith, c.few, length-append c.fed (chars text), length-chars text utf8);
        streaming = under (λ u f. IsStreaming u f (c.fed ++ chars text) (c.ready ++ w.more) t.pending) (sym w.version) (sym w.form) (w.carries c.fed c.ready c.streaming);
        count_is =
            omega (arith, w.count_is, c.count_is, ap length (encodes-append c.ready w.more), length-append (encode_utf8_all c.ready) (encode_utf8_all w.more));
      }

  module _ (sound : IsSound s.version) (few : most ≤ 4294967295) where
    -- 256 bytes for each code point that was fed, at most
    form_fits : (text more behind : List ℕ) → length text ≤ 4294967295 → IsNormalForm s.version s.form (c.fed ++ text) ((c.ready ++ more) ++ behind) → count + length (encode_utf8_all more) ≤ 18446744073709551615
    form_fits text more behind short is =
        omega (
          arith,
          few,
          short,
          c.few,
          c.count_is,
          length-normal_form s.version sound s.form (c.fed ++ text) ((c.ready ++ more) ++ behind) is,
          length-append c.fed text,
          length-append (c.ready ++ more) behind,
          length-encodes (c.ready ++ more),
          ap length (encodes-append c.ready more),
          length-append (encode_utf8_all c.ready) (encode_utf8_all more),
        )

    pub piece_fits : {t : StreamState} {before after : List ℕ} (text : List ℕ) → before ≡ [] → IsUtf8 text → length text ≤ 4294967295 → Writes s t before after (chars text) → count + length after ≤ 18446744073709551615
    piece_fits {t} {before} {after} text empty utf8 short w =
        let streaming = w.carries c.fed c.ready c.streaming in
        let fits = form_fits (chars text) w.more streaming.held (omega (arith, short, length-chars text utf8)) streaming.whole in
        omega (arith, fits, ap length (w.written ∙ ap (λ l. l ++ encode_utf8_all w.more) empty))

    pub rest_fits : {before after : List ℕ} → before ≡ [] → Closes s before after (chars []) → count + length after ≤ 18446744073709551615
    rest_fits {before} {after} empty w =
        let whole = subst (IsNormalForm s.version s.form (c.fed ++ chars [])) (sym (append-nil (c.ready ++ w.more))) (w.whole c.fed c.ready c.streaming) in
        let fits = form_fits (chars []) w.more [] (omega (arith, ap length chars-nil)) whole in
        omega (arith, fits, ap length (w.written ∙ ap (λ l. l ++ encode_utf8_all w.more) empty))
