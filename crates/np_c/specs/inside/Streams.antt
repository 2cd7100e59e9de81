-- Streams: a text at a time, and bytes that begin with those of a character that was cut.
use Rattle.std.specs.Prelude.{◌≡◌, ◌⊎◌, ◌++◌, ◌+◌, ◌<◌, ℕ, List, false, take, drop, length, chars, encode_utf8_all, IsUtf8, Option}
use Rattle.np_forms.specs.Forms.{IsNormalForm}
use Rattle.np_forms.specs.Streams.{IsStreaming}
use Rattle.np_forms.specs.Utf8Prefixes.{MayBegin, MayNotBegin}
use Rattle.np_c.specs.Statuses.{alone, not_utf8_at, with_length}
use Rattle.np_c.specs.Streams.{HasRead, IsFirstOf, StreamView}
use Rattle.np_c.specs.declared.answers.Answer.{Answer}
use Rattle.np_c.specs.declared.first_unassigned.FirstUnassigned.{FirstUnassigned}

-- the code points `text` came, and what became ready stands behind what was
pub record FeedsText (s t : StreamView) (text : List ℕ) : Type 0 where
  pub more : List ℕ
  pub state : t ≡ record s { pending = t.pending; ready = s.ready ++ encode_utf8_all more }
  pub carries : (fed out : List ℕ) → IsStreaming s.version s.form fed out s.pending → IsStreaming s.version s.form (fed ++ text) (out ++ more) t.pending

-- the text ended, and the rest of its form stands behind what was ready
pub record EndsText (s t : StreamView) : Type 0 where
  pub more : List ℕ
  pub state : t ≡ record s { pending = t.pending; ready = s.ready ++ encode_utf8_all more }
  pub whole : (fed out : List ℕ) → IsStreaming s.version s.form fed out s.pending → IsNormalForm s.version s.form fed (out ++ more)

-- the first code point that is not assigned, with a text behind what came
abbrev pub FindsFirst : StreamView → List ℕ → Option FirstUnassigned → Type 0
FindsFirst s text found = (before : List ℕ) → IsUtf8 before → s.place ≡ length before → IsFirstOf s.version (chars before) s.first → IsFirstOf s.version (chars (before ++ text)) found

-- the chunk came: n bytes of it are a text, and the rest is cut
pub record TakesChunk (s t : StreamView) (chunk : List ℕ) (a : Answer) : Type 0 where
  pub n : ℕ
  pub answer : a ≡ with_length 0 (length t.ready)
  pub version : t.version ≡ s.version
  pub form : t.form ≡ s.form
  pub unfinished : t.is_finished ≡ false
  pub begins : MayBegin chunk n
  pub cut : t.cut ≡ drop n chunk
  pub reads : (text taken : List ℕ) → HasRead s text taken → HasRead t (text ++ take n chunk) taken

-- the chunk stops being the front of a text behind n bytes, and nothing changed
pub record StopsIn (s t : StreamView) (chunk : List ℕ) (a : Answer) : Type 0 where
  pub n : ℕ
  pub answer : a ≡ not_utf8_at (s.place + n)
  pub same : t ≡ s
  pub stops : MayNotBegin chunk n

-- with the chunk more than 18,446,744,073,709,551,615 bytes would have come, and nothing changed
pub record Overflows (s t : StreamView) (chunk : List ℕ) (a : Answer) : Type 0 where
  pub answer : a ≡ alone 15
  pub same : t ≡ s
  pub large : 18446744073709551615 < s.place + length chunk

abbrev pub FeedsChunk : StreamView → StreamView → List ℕ → Answer → Type 0
FeedsChunk s t chunk a = TakesChunk s t chunk a ⊎ (StopsIn s t chunk a ⊎ (Overflows s t chunk a ⊎ ((a ≡ alone 4) × (t ≡ s))))
