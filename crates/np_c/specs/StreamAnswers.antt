-- The stream that a handle is open on, and how it is opened.
use Rattle.std.specs.Prelude.{◌≡◌, ◌⊎◌, ℕ, Option, Some, None}
use Rattle.np_code_points.specs.Forms.{byte_of}
use Rattle.np_code_points.specs.declared.forms.Form.{Form}
use Rattle.np_versions.specs.Versions.{VersionData}
use Rattle.np_c.specs.Statuses.{alone}
use Rattle.np_c.specs.Contents.{stream_in}
use Rattle.np_c.specs.Streams.{IsAtFront, StreamView}
use Rattle.np_c.specs.Texts.{IsFormLetter}
use Rattle.np_c.specs.Versions.{content_of}
use Rattle.np_c.specs.declared.answers.Answer.{Answer}
use Rattle.np_c.specs.declared.content.Content.{Content}
use Rattle.np_c.specs.declared.handles.Handle.{Handle}

-- none where the handle is closed
abbrev pub stream_of : Handle → Option StreamView
stream_of handle = stream_in (content_of handle)

-- a stream of this version and form, at the front of a text
abbrev pub IsOpenOn : VersionData → Form → Option Content → Type 0
IsOpenOn v form held = (s : StreamView) × (stream_in held ≡ Some s) × IsAtFront v form s

-- the same, the form by its letter
abbrev pub IsBegun : VersionData → ℕ → Option Content → Type 0
IsBegun v letter held = (form : Form) × (letter ≡ byte_of form) × IsOpenOn v form held

-- why there is no stream: the letter is none, or memory ran out
abbrev pub IsNotBegun : ℕ → Answer → Type 0
IsNotBegun letter a = ((a ≡ alone 6) × (¬ (IsFormLetter letter))) ⊎ (a ≡ alone 4)

-- `npss_stream_new`: a stream at the front of a text is what is opened, or nothing
abbrev pub IsStreamAnswer : VersionData → ℕ → Option Content → Answer → Type 0
IsStreamAnswer v letter opened a = ((a ≡ alone 0) × IsBegun v letter opened) ⊎ ((opened ≡ None) × IsNotBegun letter a)

-- a call on the stream of a handle ends so, and the handle goes on holding a stream
abbrev pub GoesOn : (StreamView → StreamView → Type 0) → Option StreamView → Option StreamView → Type 0
GoesOn Ends (Some s) after = (t : StreamView) × (after ≡ Some t) × Ends s t
GoesOn Ends None after = Unit {0}
