-- A stream whose ready code points are moved to the end of a text, as bytes.
use Rattle.std.specs.Prelude.{◌≡◌, ℕ, List, [], ◌++◌, encode_utf8_all}
use Rattle.np_forms.specs.Forms.{IsNormalForm}
use Rattle.np_forms.specs.Streams.{IsStreaming, StreamState}

-- the code points of `text` came, and what became ready was written: before and after are the bytes of what was written
pub record Writes (old new : StreamState) (before after text : List ℕ) : Type 0 where
  pub more : List ℕ
  pub written : after ≡ before ++ encode_utf8_all more
  pub version : new.version ≡ old.version
  pub form : new.form ≡ old.form
  pub moved : new.ready ≡ []
  pub carries : (fed out : List ℕ) → IsStreaming old.version old.form fed out old.pending
      → IsStreaming old.version old.form (fed ++ text) (out ++ more) new.pending

-- the text ended, and the rest of its normal form was written
pub record WritesEnd (old : StreamState) (before after : List ℕ) : Type 0 where
  pub more : List ℕ
  pub written : after ≡ before ++ encode_utf8_all more
  pub whole : (fed out : List ℕ) → IsStreaming old.version old.form fed out old.pending → IsNormalForm old.version old.form fed (out ++ more)

-- the text ended, the rest of its normal form was written, and what comes is a new text
pub record Breaks (old new : StreamState) (before after : List ℕ) : Type 0 where
  pub ends : WritesEnd old before after
  pub version : new.version ≡ old.version
  pub form : new.form ≡ old.form
  pub moved : new.ready ≡ []
  pub begins : IsStreaming old.version old.form [] [] new.pending
