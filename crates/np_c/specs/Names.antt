-- The names of the numbers that answers tell, as C asks for them: those that the programs print.
use Rattle.std.specs.Prelude.{◌≡◌, ◌≢◌, ◌⊎◌, ◌<◌, ◌-◌, ◌++◌, ◌∷◌, ℕ, true, List, Some, [], codes, get_or, is_some, length, replicate}
use Rattle.np_caseless.specs.Breaks as breaks
use Rattle.np_caseless.specs.ConditionFaults as condition
use Rattle.np_caseless.specs.declared.breaks.FoldedBreakKind.{FoldedBreakKind}
use Rattle.np_caseless.specs.declared.faults.ConditionFault.{ConditionFault}
use Rattle.np_code_points.specs.Forms.{byte_of, form_named}
use Rattle.np_code_points.specs.declared.forms.Form.{Form}
use Rattle.np_foldings.specs.Faults as folding
use Rattle.np_foldings.specs.declared.faults.RecordFault.{RecordFault}
use Rattle.np_ucd.specs.Faults as file
use Rattle.np_ucd.specs.declared.faults.UcdFault.{UcdFault}
use Rattle.np_versions.specs.TableFaults as table
use Rattle.np_versions.specs.declared.faults.TableFault.{TableFault}
use Rattle.np_c.specs.Texts.{IsFormLetter}
use Rattle.np_c.specs.declared.names.Name.{Name}

-- ---- what is answered

-- the name stands at the front, and NULs behind it to the end, at least one
pub record IsPadded (name : List ℕ) (a : Name) : Type 0 where
  pub ends : length name < 32
  pub text : a.text ≡ name ++ replicate (32 - length name) 0

-- a name with this property is what is answered
abbrev pub AnswersName : (List ℕ → Type 0) → Name → Type 0
AnswersName Is a = (name : List ℕ) × Is name × IsPadded name a

-- the name of what has the number; none where nothing has it
abbrev pub IsNameOf : (T : Type 0) → (T → ℕ → Type 0) → (T → List ℕ) → ℕ → List ℕ → Type 0
IsNameOf T Has name_of number name = ((t : T) × Has t number × (name ≡ name_of t)) ⊎ (((t : T) → ¬ (Has t number)) × (name ≡ []))

-- ---- statuses

-- the names of the statuses, in the order of their numbers from 0
abbrev pub status_names : List (List ℕ)
status_names =
    codes "Done" ∷ codes "Unassigned" ∷ codes "NotUtf8" ∷ codes "NoRoom" ∷ codes "Memory" ∷ codes "Closed" ∷ codes "NoForm" ∷ codes "Data"
    ∷ codes "Exclusions" ∷ codes "Tables" ∷ codes "TooLarge" ∷ codes "Different" ∷ codes "NoEnd" ∷ codes "Known" ∷ codes "NotKept"
    ∷ codes "TooLong" ∷ codes "Full" ∷ codes "Malformed" ∷ codes "OtherForm" ∷ codes "KeyDiffers" ∷ codes "OlderTables" ∷ codes "BadEntry"
    ∷ codes "BadRoom" ∷ codes "NoCode" ∷ codes "Folding" ∷ codes "Foldings" ∷ codes "NoFolding" ∷ []

-- `npss_status_name`
abbrev pub name_of_status : ℕ → List ℕ
name_of_status status = get_or status_names status []

-- ---- faults

-- the number of a fault that stands at a line
abbrev pub HasLineNumber : UcdFault → ℕ → Type 0
HasLineNumber fault number = (is_some (file.line_of fault) ≡ true) × ((file.naming_of fault).test ≡ number)

-- the number of a fault that stands at a code point
abbrev pub HasTableNumber : TableFault → ℕ → Type 0
HasTableNumber fault number = (is_some (table.code_of fault) ≡ true) × (table.number_of fault ≡ number)

abbrev pub HasRecordNumber : RecordFault → ℕ → Type 0
HasRecordNumber fault number = folding.number_of fault ≡ number

abbrev pub HasConditionNumber : ConditionFault → ℕ → Type 0
HasConditionNumber fault number = (is_some (condition.code_of fault) ≡ true) × (condition.number_of fault ≡ number)

abbrev pub IsFileFaultName : ℕ → List ℕ → Type 0
IsFileFaultName number name = IsNameOf UcdFault HasLineNumber file.name_of number name

abbrev pub IsTableFaultName : ℕ → List ℕ → Type 0
IsTableFaultName number name = IsNameOf TableFault HasTableNumber table.name_of number name

abbrev pub IsRecordFaultName : ℕ → List ℕ → Type 0
IsRecordFaultName number name = IsNameOf RecordFault HasRecordNumber folding.record_name number name

abbrev pub IsConditionFaultName : ℕ → List ℕ → Type 0
IsConditionFaultName number name = IsNameOf ConditionFault HasConditionNumber condition.name_of number name

-- `npss_fault_name`: the faults that an answer of this status tells are those of one of the two files, of the tables, of the folding file,
-- or of the foldings; an answer of another status tells none
pub record IsFaultName (status number : ℕ) (name : List ℕ) : Type 0 where
  pub data_file : status ≡ 7 → IsFileFaultName number name
  pub exclusions_file : status ≡ 8 → IsFileFaultName number name
  pub tables : status ≡ 9 → IsTableFaultName number name
  pub folding_file : status ≡ 24 → IsRecordFaultName number name
  pub foldings : status ≡ 25 → IsConditionFaultName number name
  pub other : status ≢ 7 → status ≢ 8 → status ≢ 9 → status ≢ 24 → status ≢ 25 → name ≡ []

-- ---- breaks and forms

abbrev pub HasBreakNumber : FoldedBreakKind → ℕ → Type 0
HasBreakNumber kind number = breaks.number_of kind ≡ number

-- `npss_break_name`
abbrev pub IsBreakName : ℕ → List ℕ → Type 0
IsBreakName number name = IsNameOf FoldedBreakKind HasBreakNumber breaks.name_of number name

-- `npss_form_name`: the form of the letter has the name; none where the letter is no form's
abbrev pub IsFormName : ℕ → List ℕ → Type 0
IsFormName letter name =
    ((form : Form) × (letter ≡ byte_of form) × (form_named name ≡ Some form)) ⊎ ((¬ (IsFormLetter letter)) × (name ≡ []))
