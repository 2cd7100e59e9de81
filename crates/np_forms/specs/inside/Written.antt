-- A stream that holds the front of a text back, and one whose text ends at once.
use Rattle.std.specs.Prelude.{◌≡◌, ℕ, List, ◌++◌, encode_utf8_all}
use Rattle.np_forms.specs.Forms.{IsNormalForm}
use Rattle.np_forms.specs.Streams.{IsStreaming, StreamState}
pub use Rattle.np_forms.specs.StreamTexts.{Breaks, Writes, WritesEnd}
use Rattle.np_forms.specs.inside.Readings.{IsRead}

-- the front of a text came, and is held back; `rest` is left
pub record HoldsFront (old new : StreamState) (text rest : List ℕ) : Type 0 where
  pub front : List ℕ
  pub reads : IsRead text rest front
  pub version : new.version ≡ old.version
  pub form : new.form ≡ old.form
  pub ready : new.ready ≡ old.ready
  pub carries : (fed out : List ℕ) → IsStreaming old.version old.form fed out old.pending → IsStreaming old.version old.form (fed ++ front) out new.pending

-- the last of the text came, and the rest of its normal form was written
pub record Closes (old : StreamState) (before after text : List ℕ) : Type 0 where
  pub more : List ℕ
  pub written : after ≡ before ++ encode_utf8_all more
  pub whole : (fed out : List ℕ) → IsStreaming old.version old.form fed out old.pending → IsNormalForm old.version old.form (fed ++ text) (out ++ more)
