-- What the two files of a version say, by what their readers answer.
use Rattle.std.proofs.Common.{◌≡◌, ℕ, ◌↔◌, true, List, Result, Ok, Err, IfOk, IfErr, ap, inl, inr, refl, sym, subst}
use Rattle.std.proofs.lemmas.Bool.{false_from_ne_true}
use Rattle.np_code_points.specs.Inputs.{IsReadWhole}
use Rattle.np_ucd.specs.AllRows.{AreAllRows}
use Rattle.np_ucd.specs.Entries.{Entry}
use Rattle.np_ucd.specs.Exclusions.{AreReadable, IsListedIn}
use Rattle.np_ucd.specs.FirstFaults.{HasNoFault}
use Rattle.np_ucd.specs.Listed.{Span, is_listed}
use Rattle.np_versions.specs.TableFaults.{IsFaultless}
use Rattle.np_versions.specs.Versions.{VersionData}
use Rattle.np_jobs.specs.Streams.{Stream}
use Rattle.np_jobs.specs.Versions.{HasExclusions, HasRows, IsTablesFault, IsVersionFault, WasBuilt}
use Rattle.np_jobs.specs.Wraps.{Wraps}
use Rattle.np_jobs.specs.Versions.{IsFaultOver, WasBuiltOver}
use Rattle.np_jobs.specs.declared.faults.VersionFault.{VersionFault}
use Rattle.np_jobs.specs.declared.faults.VersionFault.TheVariants.{Tables}

pub has_rows : (file : Stream) (rows : List Entry) → ((bytes : List ℕ) × IsReadWhole file.before file.after bytes × HasNoFault bytes × AreAllRows bytes rows)
    → (file.failed ≡ true → ⊥) → HasRows file rows
has_rows file rows h sound = record { bytes = h.0; read = record { read = h.1; clear = false_from_ne_true _ sound }; faultless = h.2; are = h.3 }

pub has_exclusions : (file : Stream) (spans : List Span)
    → ((bytes : List ℕ) × IsReadWhole file.before file.after bytes × AreReadable bytes × ((code : ℕ) → (is_listed spans code ≡ true) ↔ IsListedIn bytes code))
    → (file.failed ≡ true → ⊥) → HasExclusions file spans
has_exclusions file spans h sound = record { bytes = h.0; read = record { read = h.1; clear = false_from_ne_true _ sound }; readable = h.2; listed = h.3 }

-- of rows and exclusions a version was built, or it has a fault
pub built_over : (rows : List Entry) (exclusions_file : Stream) (spans : List Span) (built : Result VersionData VersionFault)
    → HasExclusions exclusions_file spans
    → IfOk built (λ v. v ≡ record { entries = rows; exclusions = spans }) → IfOk built IsFaultless → IfOk built (WasBuiltOver rows exclusions_file)
built_over rows exclusions_file spans (Ok v) lists is fine = record {
  over = ap (λ (w : VersionData). w.entries) is;
  listed = subst (λ (w : VersionData). HasExclusions exclusions_file w.exclusions) (sym is) lists;
  faultless = fine;
}
built_over rows exclusions_file spans (Err fault) lists is fine = tt

pub fault_over : (number : ℕ) (rows : List Entry) (exclusions_file : Stream) (spans : List Span) (built : Result VersionData VersionFault)
    → HasExclusions exclusions_file spans
    → IfErr built (Wraps (Tables number) (IsTablesFault (record { entries = rows; exclusions = spans })))
    → IfErr built (IsFaultOver number rows exclusions_file)
fault_over number rows exclusions_file spans (Ok v) lists refused = tt
fault_over number rows exclusions_file spans (Err fault) lists refused = inr (record { entries = rows; exclusions = spans }, refl, lists, refused)

-- and so of both files
pub was_built : (data_file exclusions_file : Stream) (rows : List Entry) (built : Result VersionData VersionFault) → HasRows data_file rows
    → IfOk built (WasBuiltOver rows exclusions_file) → IfOk built (WasBuilt data_file exclusions_file)
was_built data_file exclusions_file rows (Ok v) has over = record {
  rows = subst (HasRows data_file) (sym over.over) has;
  listed = over.listed;
  faultless = over.faultless;
}
was_built data_file exclusions_file rows (Err fault) has over = tt

pub was_refused : (number : ℕ) (data_file exclusions_file : Stream) (rows : List Entry) (built : Result VersionData VersionFault) → HasRows data_file rows
    → IfErr built (IsFaultOver number rows exclusions_file) → IfErr built (IsVersionFault number data_file exclusions_file)
was_refused number data_file exclusions_file rows (Ok v) has over = tt
was_refused number data_file exclusions_file rows (Err fault) has over = elim over [
  | inl exclusions ↦ inr (inl ((rows, has), exclusions))
  | inr (v, same, lists, tables) ↦ inr (inr (v, subst (HasRows data_file) (sym same) has, lists, tables))
]
