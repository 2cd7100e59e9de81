-- Messages: a form's byte, and a string and its key.
use Rattle.std.specs.Prelude.{◌≡◌, ℕ, ◌+◌, ◌<◌, ◌⊎◌, List, ◌∷◌, ◌++◌, length}
use Rattle.np_code_points.specs.Forms.{byte_of}
use Rattle.np_code_points.specs.declared.forms.Form.{Form}
use Rattle.np_node.specs.Fields.{entry_bytes, FitsFields, IsEntryFault, LacksForm}
use Rattle.np_node.specs.Strings.{Entry}

pub record Message : Type 0 where
  pub form : Form
  pub entry : Entry

-- the one spelling of a message
unfoldable pub message_bytes : Message → List ℕ
message_bytes m = byte_of m.form ∷ entry_bytes m.entry

-- the bytes are the spelling of the message
pub record IsMessage (bytes : List ℕ) (m : Message) : Type 0 where
  pub fits : FitsFields m.entry
  pub spelling : bytes ≡ message_bytes m

-- ---- the fault place of bytes that are no message: `at` is the offset of the first field that isn't whole or isn't
-- allowed, or of the first byte behind a whole message

-- no form's byte is in front
pub record HasNoForm (bytes : List ℕ) (at : ℕ) : Type 0 where
  pub lacks : LacksForm bytes
  pub place : at ≡ 0

-- behind the form's byte, the string and its key aren't whole
pub record HasNoEntry (bytes : List ℕ) (at : ℕ) : Type 0 where
  pub form : Form
  pub rest : List ℕ
  pub inner : ℕ
  pub split : bytes ≡ byte_of form ∷ rest
  pub fault : IsEntryFault rest inner
  pub place : at ≡ 1 + inner

-- bytes follow a whole message
pub record HasMore (bytes : List ℕ) (at : ℕ) : Type 0 where
  pub message : Message
  pub rest : List ℕ
  pub fits : FitsFields message.entry
  pub split : bytes ≡ message_bytes message ++ rest
  pub more : 0 < length rest
  pub place : at ≡ length (message_bytes message)

abbrev pub IsMessageFault : List ℕ → ℕ → Type 0
IsMessageFault bytes at = HasNoForm bytes at ⊎ (HasNoEntry bytes at ⊎ HasMore bytes at)
