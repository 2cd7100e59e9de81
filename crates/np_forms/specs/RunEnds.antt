-- How a run over a whole input ends, by what the reader had before and has after, and what the writer holds before and after.
use Rattle.std.specs.Prelude.{◌≡◌, ℕ, ◌≤◌, ◌⊎◌, List, ◌++◌, length, take, drop, chars, encode_utf8_all, IsUtf8, Option, None, Result, Ok, Err}
use Rattle.std.specs.Io.KnownBytes.{Appends, Consumes, IsAtEnd}
use Rattle.std.specs.Str.Lossy.{utf8_valid_len, utf8_error_len}
use Rattle.np_code_points.specs.Text.{IsLongestValidPrefix}
use Rattle.np_code_points.specs.declared.forms.Form.{Form}
use Rattle.np_forms.specs.Forms.{IsNormalForm}
use Rattle.np_forms.specs.Streams.{IsCutAtLastStarter}
use Rattle.np_forms.specs.declared.runs.RunFault.{RunFault}
use Rattle.np_forms.specs.declared.runs.RunFault.TheVariants.{NotUtf8, ReadFailed, WriteFailed, TooLarge, Memory}
use Rattle.np_versions.specs.Versions.{VersionData}

-- more bytes may make a text of these: what follows their longest front that is UTF-8 is nothing, or ends within a character
-- (The Unicode Standard, table 3-7)
abbrev pub BeginsText : List ℕ → Type 0
BeginsText bytes = utf8_error_len (drop (utf8_valid_len bytes) bytes) ≡ None

-- what a reader and a writer hold, before and after
pub record Ends : Type 0 where
  pub in_before : Option (List ℕ)
  pub in_after : Option (List ℕ)
  pub out_before : Option (List ℕ)
  pub out_after : Option (List ℕ)

-- the whole input is a text within the limit, and its normal form was written, of `count` bytes
pub record IsRunWhole (v : VersionData) (form : Form) (ends : Ends) (count : ℕ) : Type 0 where
  pub bytes : List ℕ
  pub taken : Consumes ends.in_before ends.in_after bytes
  pub end : IsAtEnd ends.in_after
  pub size : length bytes ≤ 4294967295
  pub utf8 : IsUtf8 bytes
  pub list : List ℕ
  pub normal : IsNormalForm v form (chars bytes) list
  pub written : Appends ends.out_before ends.out_after (encode_utf8_all list)
  pub count_is : count ≡ length (encode_utf8_all list)

-- these bytes were read, and their longest front that is UTF-8 has `at` bytes and this normal form
pub record IsReadTo (v : VersionData) (form : Form) (ends : Ends) (bytes list : List ℕ) (at : ℕ) : Type 0 where
  pub taken : Consumes ends.in_before ends.in_after bytes
  pub size : length bytes ≤ 4294967296
  pub valid : IsLongestValidPrefix bytes at
  pub normal : IsNormalForm v form (chars (take at bytes)) list

-- the bytes stop being a text at byte 4,294,967,295 at the latest, or the input ends within a character and within the limit
abbrev pub IsNoText : Ends → List ℕ → Type 0
IsNoText ends bytes =
    ((n : ℕ) × (n ≤ 4294967295) × (n ≤ length bytes) × (¬ BeginsText (take n bytes)))
    ⊎ (IsAtEnd ends.in_after × (length bytes ≤ 4294967295) × (¬ IsUtf8 bytes))

-- the cause of each fault
abbrev pub IsCauseOf : Ends → List ℕ → ℕ → RunFault → Type 0
IsCauseOf ends bytes at (NotUtf8 place) = (place ≡ at) × IsNoText ends bytes
IsCauseOf ends bytes at ReadFailed = Unit {0}
IsCauseOf ends bytes at WriteFailed = Unit {0}
IsCauseOf ends bytes at TooLarge = (length bytes ≡ 4294967296) × BeginsText (take 4294967295 bytes)
IsCauseOf ends bytes at Memory = Unit {0}

-- the bytes of a form cut before its last starter, nothing where it has none
pub record IsCutForm (v : VersionData) (list out : List ℕ) : Type 0 where
  pub x : List ℕ
  pub y : List ℕ
  pub split : list ≡ x ++ y
  pub cut : IsCutAtLastStarter v x y
  pub out_is : out ≡ encode_utf8_all x

-- some first bytes of a form
pub record IsFrontOfForm (list out : List ℕ) : Type 0 where
  pub rest : List ℕ
  pub split : encode_utf8_all list ≡ out ++ rest

-- what was written of a form, for each fault
abbrev pub IsWrittenOf : VersionData → List ℕ → List ℕ → RunFault → Type 0
IsWrittenOf v list out (NotUtf8 place) = IsFrontOfForm list out
IsWrittenOf v list out ReadFailed = IsCutForm v list out
IsWrittenOf v list out WriteFailed = IsFrontOfForm list out
IsWrittenOf v list out TooLarge = IsFrontOfForm list out
IsWrittenOf v list out Memory = IsFrontOfForm list out

-- the run ended early: what was read, why it ended, and what was written of the form of the text that was read
pub record IsRunCut (v : VersionData) (form : Form) (ends : Ends) (fault : RunFault) : Type 0 where
  pub bytes : List ℕ
  pub at : ℕ
  pub list : List ℕ
  pub read : IsReadTo v form ends bytes list at
  pub cause : IsCauseOf ends bytes at fault
  pub out : List ℕ
  pub written : Appends ends.out_before ends.out_after out
  pub front : IsWrittenOf v list out fault

-- each end of a run
abbrev pub RunEnds : VersionData → Form → Ends → Result ℕ RunFault → Type 0
RunEnds v form ends (Ok count) = IsRunWhole v form ends count
RunEnds v form ends (Err fault) = IsRunCut v form ends fault
