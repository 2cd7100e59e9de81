-- Streams: what a handle on one holds, by what came to it and what was taken from it.
use Rattle.std.specs.Prelude.{◌≡◌, ◌≢◌, ◌⊎◌, ◌<◌, ◌++◌, ℕ, min, Bool, true, false, List, [], take, drop, length, chars, encode_utf8_all, IsUtf8, Option, Some, None}
use Rattle.np_code_points.specs.Text.{IsLongestValidPrefix}
use Rattle.np_code_points.specs.declared.forms.Form.{Form}
use Rattle.np_forms.specs.Assigned.{IsAssigned, IsFirstUnassigned}
use Rattle.np_forms.specs.Streams.{IsStreaming}
use Rattle.np_forms.specs.Utf8Prefixes.{MayBegin, MayNotBegin}
use Rattle.np_versions.specs.Versions.{VersionData}
use Rattle.np_c.specs.Statuses.{alone, not_utf8_at, with_length}
use Rattle.np_c.specs.Texts.{IsFormOf, IsKeyOf}
use Rattle.np_c.specs.declared.answers.Answer.{Answer}
use Rattle.np_c.specs.declared.first_unassigned.FirstUnassigned.{FirstUnassigned}

-- what a handle on a stream holds
pub record StreamView : Type 0 where
  pub version : VersionData
  pub form : Form
  -- the code points that are held back
  pub pending : List ℕ
  -- the bytes at the end of what came that begin a character, and how many came before them
  pub cut : List ℕ
  pub place : ℕ
  -- the bytes of the form that were not taken yet
  pub ready : List ℕ
  -- the first code point that is not assigned
  pub first : Option FirstUnassigned
  pub is_finished : Bool

-- each code point is assigned, or this is the first that is not
abbrev pub IsFirstOf : VersionData → List ℕ → Option FirstUnassigned → Type 0
IsFirstOf v codes None = IsAssigned v codes
IsFirstOf v codes (Some first) = IsFirstUnassigned v codes first.place first.code

-- the text came, and of its form the bytes `taken` were taken
pub record HasRead (s : StreamView) (text taken : List ℕ) : Type 0 where
  pub valid : IsUtf8 text
  pub place : s.place ≡ length text
  pub out : List ℕ
  pub made : taken ++ s.ready ≡ encode_utf8_all out
  pub streaming : IsStreaming s.version s.form (chars text) out s.pending
  pub first : IsFirstOf s.version (chars text) s.first

-- the bytes `fed` came: a text, and behind it the begin of a character, or nothing; and more may come
pub record HasCome (s : StreamView) (fed taken : List ℕ) : Type 0 where
  pub text : List ℕ
  pub split : fed ≡ text ++ s.cut
  pub begins : MayBegin s.cut 0
  pub reads : HasRead s text taken

-- the bytes `fed` came, and the text ended: its normal form is what was taken, and then what is ready
pub record HasEnded (s : StreamView) (fed taken : List ℕ) : Type 0 where
  pub finished : s.is_finished ≡ true
  pub form : IsFormOf s.version s.form fed (taken ++ s.ready)

-- ---- how each call ends

-- `npss_stream_new`: the handle holds a stream at the front of a text; or nothing, where the letter is none or memory ran out
pub record IsAtFront (v : VersionData) (form : Form) (s : StreamView) : Type 0 where
  pub version : s.version ≡ v
  pub form_is : s.form ≡ form
  pub unfinished : s.is_finished ≡ false
  pub nothing : HasCome s [] []

-- `npss_stream_feed`: the piece came
pub record IsFed (s t : StreamView) (piece : List ℕ) (a : Answer) : Type 0 where
  pub answer : a ≡ with_length 0 (length t.ready)
  pub version : t.version ≡ s.version
  pub form : t.form ≡ s.form
  pub unfinished : t.is_finished ≡ false
  pub carries : (fed taken : List ℕ) → HasCome s fed taken → HasCome t (fed ++ piece) taken

-- or the bytes that came and the piece are no front of a text, and nothing changed
pub record IsNoFront (s t : StreamView) (piece : List ℕ) (a : Answer) : Type 0 where
  pub place : ℕ
  pub answer : a ≡ not_utf8_at place
  pub same : t ≡ s
  pub stops : (fed taken : List ℕ) → HasCome s fed taken → MayNotBegin (fed ++ piece) place

-- or with the piece more than 18,446,744,073,709,551,615 bytes would have come, and nothing changed
pub record IsTooLarge (s t : StreamView) (piece : List ℕ) (a : Answer) : Type 0 where
  pub answer : a ≡ alone 15
  pub same : t ≡ s
  pub large : (fed taken : List ℕ) → HasCome s fed taken → 18446744073709551615 < length (fed ++ piece)

-- or the stream was finished, or memory ran out, and nothing changed
abbrev pub IsFeedAnswer : StreamView → StreamView → List ℕ → Answer → Type 0
IsFeedAnswer s t piece a =
    ((s.is_finished ≡ true) × (a ≡ alone 5) × (t ≡ s))
    ⊎ ((s.is_finished ≡ false) × (IsFed s t piece a ⊎ (IsNoFront s t piece a ⊎ (IsTooLarge s t piece a ⊎ ((a ≡ alone 4) × (t ≡ s))))))

-- `npss_stream_take`: as much as fits of what is ready stands at the front of the room
pub record IsTaken (s t : StreamView) (before after : List ℕ) (a : Answer) : Type 0 where
  pub count : ℕ
  pub count_is : count ≡ min (length s.ready) (length before)
  pub room : after ≡ take count s.ready ++ drop count before
  pub left : t ≡ record s { ready = drop count s.ready }
  pub answer : a ≡ record { status = 0; fault = 0; code = 0; place = length t.ready; length = count }

-- what `npss_stream_finish` tells of the first code point that is not assigned
abbrev pub finish_answer : Option FirstUnassigned → ℕ → Answer
finish_answer None count = with_length 0 count
finish_answer (Some first) count = record { status = 1; fault = 0; code = first.code; place = first.place; length = count }

-- `npss_stream_finish`: the text ended, and what was taken and is ready is its key; or, where a code point is not assigned, its normal form
abbrev pub IsWhole : StreamView → List ℕ → List ℕ → Option FirstUnassigned → Type 0
IsWhole t fed taken None = IsKeyOf t.version t.form fed (taken ++ t.ready)
IsWhole t fed taken (Some first) = IsFirstUnassigned t.version (chars fed) first.place first.code

pub record IsFinished (s t : StreamView) (a : Answer) : Type 0 where
  pub answer : a ≡ finish_answer s.first (length t.ready)
  pub version : t.version ≡ s.version
  pub form : t.form ≡ s.form
  pub ends : (fed taken : List ℕ) → HasCome s fed taken → HasEnded t fed taken
  pub whole : (fed taken : List ℕ) → HasCome s fed taken → IsWhole t fed taken s.first

-- or the text ends within a character, and nothing changed
pub record IsCutShort (s t : StreamView) (a : Answer) : Type 0 where
  pub answer : a ≡ not_utf8_at s.place
  pub same : t ≡ s
  pub some : s.cut ≢ []
  pub stops : (fed taken : List ℕ) → HasCome s fed taken → IsLongestValidPrefix fed s.place

abbrev pub IsFinishAnswer : StreamView → StreamView → Answer → Type 0
IsFinishAnswer s t a =
    ((s.is_finished ≡ true) × (a ≡ alone 5) × (t ≡ s))
    ⊎ ((s.is_finished ≡ false) × (IsFinished s t a ⊎ (IsCutShort s t a ⊎ ((a ≡ alone 4) × (t ≡ s)))))
