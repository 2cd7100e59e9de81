-- A run between two reads.
use Rattle.std.specs.Prelude.{◌≡◌, ℕ, ◌+◌, ◌-◌, ◌<◌, ◌≤◌, ◌⊎◌, ◌++◌, Bool, false, List, [], length, take, drop}
use Rattle.std.specs.Prelude.{chars, encode_utf8_all, IsUtf8, Option, Result}
use Rattle.std.specs.Io.KnownBytes.{Appends, Consumes}
use Rattle.np_code_points.specs.Text.{IsLongestValidPrefix}
use Rattle.np_code_points.specs.declared.forms.Form.{Form}
use Rattle.np_forms.specs.Forms.{IsNormalForm}
use Rattle.np_forms.specs.RunEnds.{RunEnds}
pub use Rattle.np_forms.specs.Utf8Prefixes.{MayBegin, MayNotBegin}
use Rattle.np_forms.specs.Streams.{IsStreaming, StreamState}
use Rattle.np_forms.specs.declared.runs.RunFault.{RunFault}
use Rattle.np_forms.specs.declared.runs.RunFault.TheVariants.{NotUtf8, ReadFailed, WriteFailed, TooLarge, Memory}
use Rattle.np_versions.specs.Conditions.{IsSound}
use Rattle.np_versions.specs.Versions.{VersionData}

-- of what was read, from i₀ to i₁, all but the begin of a character was fed, and all that is ready is written, from o₀ to o₁
pub record IsRunning (v : VersionData) (form : Form) (i₀ i₁ o₀ o₁ : Option (List ℕ)) (kept : List ℕ) (total count : ℕ) (s : StreamState)
    : Type 0 where
  pub done : List ℕ
  pub taken : Consumes i₀ i₁ (done ++ kept)
  pub utf8 : IsUtf8 done
  pub cut : IsLongestValidPrefix kept 0
  pub size : length done + length kept ≡ total
  pub ready : List ℕ
  pub written : Appends o₀ o₁ (encode_utf8_all ready)
  pub count_is : count ≡ length (encode_utf8_all ready)
  pub streaming : IsStreaming v form (chars done) ready s.pending
  pub version : s.version ≡ v
  pub form_is : s.form ≡ form
  pub moved : s.ready ≡ []

-- a text of at most so many code points was fed, and of what became ready so many bytes are written
pub record IsCounted (s : StreamState) (most count : ℕ) : Type 0 where
  pub fed : List ℕ
  pub ready : List ℕ
  pub few : length fed ≤ most
  pub streaming : IsStreaming s.version s.form fed ready s.pending
  pub count_is : count ≡ length (encode_utf8_all ready)

-- what holds between two reads: nothing is ready that is not written, what is kept of a character was read, no more was fed than
-- was read, and neither device failed
pub record IsBetweenReads (s : StreamState) (text : List ℕ) (kept total count : ℕ) (read_failed write_failed : Bool) : Type 0 where
  pub sound : IsSound s.version
  pub moved : s.ready ≡ []
  pub empty : text ≡ []
  pub reads : read_failed ≡ false
  pub writes : write_failed ≡ false
  pub fits : total ≤ 4294967295
  pub inside : kept ≤ total
  pub counted : IsCounted s (total - kept) count

-- that holds of a chunk without its last byte, of which k bytes are a text
pub record IsBeforeLast (Begins : List ℕ → ℕ → Type 0) (chunk : List ℕ) : Type 0 where
  pub m : ℕ
  pub k : ℕ
  pub size : m + 1 ≡ length chunk
  pub front : Begins (take m chunk) k

-- n bytes of the chunk are a text, and `total` bytes were read with it
abbrev pub IsChunkCause : List ℕ → ℕ → ℕ → RunFault → Type 0
IsChunkCause chunk total n (NotUtf8 place) =
    (place + length chunk ≡ total + n)
    × ((total ≤ 4294967295 × MayNotBegin chunk n) ⊎ (total ≡ 4294967296 × IsBeforeLast MayNotBegin chunk))
IsChunkCause chunk total n ReadFailed = ⊥
IsChunkCause chunk total n WriteFailed = ⊥
IsChunkCause chunk total n TooLarge = total ≡ 4294967296 × IsBeforeLast MayBegin chunk
IsChunkCause chunk total n Memory = ⊥

-- why a chunk is no further piece of a text; `total` bytes were read with it
pub record IsChunkFault (chunk : List ℕ) (total : ℕ) (fault : RunFault) : Type 0 where
  pub n : ℕ
  pub prefix : IsLongestValidPrefix chunk n
  pub cause : IsChunkCause chunk total n fault

-- a chunk was read, of which n bytes are a text, and the rest is left
pub record IsNextChunk (i₁ i₂ : Option (List ℕ)) (kept chunk left : List ℕ) (old new n : ℕ) : Type 0 where
  pub came : List ℕ
  pub some : 0 < length came
  pub taken : Consumes i₁ i₂ came
  pub chunk_is : chunk ≡ kept ++ came
  pub prefix : IsLongestValidPrefix chunk n
  pub left_is : left ≡ drop n chunk
  pub total_is : new ≡ old + length came
  pub fits : new ≤ 4294967295

-- the cause of a fault of the input, where `came` came last
abbrev pub IsInputCause : List ℕ → List ℕ → ℕ → RunFault → Type 0
IsInputCause kept came total (NotUtf8 place) = IsChunkFault (kept ++ came) (total + length came) (NotUtf8 place)
IsInputCause kept came total ReadFailed = came ≡ []
IsInputCause kept came total WriteFailed = ⊥
IsInputCause kept came total TooLarge = IsChunkFault (kept ++ came) (total + length came) TooLarge
IsInputCause kept came total Memory = Unit {0}

pub record IsInputFault (i₁ i₂ : Option (List ℕ)) (kept : List ℕ) (total : ℕ) (fault : RunFault) : Type 0 where
  pub came : List ℕ
  pub taken : Consumes i₁ i₂ came
  pub size : total + length came ≤ 4294967296
  pub cause : IsInputCause kept came total fault

-- a text was fed, and what became ready was written
pub record IsPieceWritten (old new : StreamState) (o₁ o₂ : Option (List ℕ)) (before after : ℕ) (text : List ℕ) : Type 0 where
  pub more : List ℕ
  pub written : Appends o₁ o₂ (encode_utf8_all more)
  pub count_is : after ≡ before + length (encode_utf8_all more)
  pub version : new.version ≡ old.version
  pub form : new.form ≡ old.form
  pub moved : new.ready ≡ []
  pub carries : (fed out : List ℕ) → IsStreaming old.version old.form fed out old.pending
      → IsStreaming old.version old.form (fed ++ text) (out ++ more) new.pending

-- a text was fed in part, and nothing was written, or it was fed, and of what became ready some first bytes were written
pub record IsPieceCut (old : StreamState) (o₁ o₂ : Option (List ℕ)) (text : List ℕ) : Type 0 where
  pub out : List ℕ
  pub written : Appends o₁ o₂ out
  pub front : (out ≡ []) ⊎ ((more : List ℕ) × ((rest : List ℕ) × (encode_utf8_all more ≡ out ++ rest)
      × ((fed done : List ℕ) → IsStreaming old.version old.form fed done old.pending
      → (pending : List ℕ) × IsStreaming old.version old.form (fed ++ text) (done ++ more) pending)))

-- the text ended, and the rest of its form was written
pub record IsRestWritten (old : StreamState) (o₁ o₂ : Option (List ℕ)) (before after : ℕ) : Type 0 where
  pub more : List ℕ
  pub written : Appends o₁ o₂ (encode_utf8_all more)
  pub count_is : after ≡ before + length (encode_utf8_all more)
  pub whole : (fed out : List ℕ) → IsStreaming old.version old.form fed out old.pending → IsNormalForm old.version old.form fed (out ++ more)

-- nothing was written, or some first bytes of the rest of the form
pub record IsRestCut (old : StreamState) (o₁ o₂ : Option (List ℕ)) : Type 0 where
  pub out : List ℕ
  pub written : Appends o₁ o₂ out
  pub front : (out ≡ []) ⊎ ((more : List ℕ) × ((rest : List ℕ) × (encode_utf8_all more ≡ out ++ rest)
      × ((fed done : List ℕ) → IsStreaming old.version old.form fed done old.pending
      → IsNormalForm old.version old.form fed (done ++ more))))

-- a run goes on, whatever its version, its form and its begin
abbrev pub Goes : StreamState → StreamState → Option (List ℕ) → Option (List ℕ) → Option (List ℕ) → Option (List ℕ)
    → List ℕ → List ℕ → ℕ → ℕ → ℕ → ℕ → Type 0
Goes s t i₁ i₂ o₁ o₂ kept left old new before after =
    (form : Form) (i₀ o₀ : Option (List ℕ))
    → IsRunning s.version form i₀ i₁ o₀ o₁ kept old before s → IsRunning s.version form i₀ i₂ o₀ o₂ left new after t

-- a run ends
abbrev pub Stops : StreamState → Option (List ℕ) → Option (List ℕ) → Option (List ℕ) → Option (List ℕ)
    → List ℕ → ℕ → ℕ → Result ℕ RunFault → Type 0
Stops s i₁ i₂ o₁ o₂ kept old before result =
    (form : Form) (i₀ o₀ : Option (List ℕ)) → IsRunning s.version form i₀ i₁ o₀ o₁ kept old before s
    → RunEnds s.version form (record { in_before = i₀; in_after = i₂; out_before = o₀; out_after = o₂ }) result
