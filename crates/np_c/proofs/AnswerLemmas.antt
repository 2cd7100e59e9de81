-- What answers tell, from the answers below them.
use Rattle.std.proofs.Common.{◌≡◌, ◌⊎◌, ◌↔◌, ℕ, Bool, true, false, List, Option, Some, refl, subst, inl, inr, ⊎_elim, IsTrue}
use Rattle.std.proofs.lemmas.Bool.{false≢true}
use Rattle.np_code_points.specs.Inputs.{IsReadWhole}
use Rattle.np_versions.specs.TableFaults.{IsLeastFault}
use Rattle.np_versions.specs.Versions.{VersionData}
use Rattle.np_versions.specs.declared.faults.TableFault.{TableFault}
use Rattle.np_versions.specs.declared.faults.TableFault.TheVariants as table
use Rattle.np_ucd.specs.Faults.{line_of, naming_of}
use Rattle.np_ucd.specs.Reading.{IsRefused}
use Rattle.np_ucd.specs.declared.faults.UcdFault.{UcdFault}
use Rattle.np_ucd.specs.declared.faults.UcdFault.TheVariants.{FieldCount, BadCode, OutOfOrder, BadCategory, BadClass, BadMapping, RangeOpen, RangeLone, RangeDiffers, RangeMaps, TooLarge, ReadFailed, Memory}
use Rattle.np_c.specs.Answers.{Tells}
use Rattle.np_c.specs.Files.{IsFileFault, IsFileRefused, IsTablesAnswer}
use Rattle.np_c.specs.Statuses.{alone}
use Rattle.np_c.specs.inside.FaultAnswers.{at_line, file_answer, tables_answer, told_answer}

-- yes or no
pub tells : (P : Type 0) (yes : Bool) → IsTrue yes ↔ P → Tells P (told_answer yes)
tells P true same = inl (refl, same.0 refl)
tells P false same = inr (refl, λ p. absurd (false≢true (same.1 p)))

-- a fault that has a line is that of the bytes
lined : (status : ℕ) (IsFault : List ℕ → UcdFault → Type 0) (bytes : List ℕ) (after : Option (List ℕ)) (f : UcdFault) (line : ℕ) → line_of f ≡ Some line
    → ((read : List ℕ) × IsReadWhole (Some bytes) after read × IsFault read f) → IsFileFault status IsFault bytes (at_line status (naming_of f).test line)
lined status IsFault bytes after f line at h = record { first = f; is = subst (λ (bs : List ℕ). IsFault bs f) h.1.whole h.2; told = refl; line = at }

pub refused_file : (status number : ℕ) (IsFault : List ℕ → UcdFault → Type 0) (bytes : List ℕ) (after : Option (List ℕ)) (f : UcdFault)
    → IsRefused IsFault (Some bytes) after f → IsFileRefused status number IsFault bytes (file_answer status number f)
refused_file status number IsFault bytes after (FieldCount line) h = inl (lined status IsFault bytes after (FieldCount line) line refl h)
refused_file status number IsFault bytes after (BadCode line) h = inl (lined status IsFault bytes after (BadCode line) line refl h)
refused_file status number IsFault bytes after (OutOfOrder line) h = inl (lined status IsFault bytes after (OutOfOrder line) line refl h)
refused_file status number IsFault bytes after (BadCategory line) h = inl (lined status IsFault bytes after (BadCategory line) line refl h)
refused_file status number IsFault bytes after (BadClass line) h = inl (lined status IsFault bytes after (BadClass line) line refl h)
refused_file status number IsFault bytes after (BadMapping line) h = inl (lined status IsFault bytes after (BadMapping line) line refl h)
refused_file status number IsFault bytes after (RangeOpen line) h = inl (lined status IsFault bytes after (RangeOpen line) line refl h)
refused_file status number IsFault bytes after (RangeLone line) h = inl (lined status IsFault bytes after (RangeLone line) line refl h)
refused_file status number IsFault bytes after (RangeDiffers line) h = inl (lined status IsFault bytes after (RangeDiffers line) line refl h)
refused_file status number IsFault bytes after (RangeMaps line) h = inl (lined status IsFault bytes after (RangeMaps line) line refl h)
refused_file status number IsFault bytes after TooLarge h = inr (inl (record { told = refl; large = h.more }))
refused_file status number IsFault bytes after ReadFailed h = inr (inr refl)
refused_file status number IsFault bytes after Memory h = inr (inr refl)

-- a fault of tables is the least one of the version
pub refused_tables : (v : VersionData) (f : TableFault) → (f ≡ table.Memory) ⊎ IsLeastFault v f → IsTablesAnswer v (tables_answer f) ⊎ (tables_answer f ≡ alone 4)
refused_tables v (table.MapsToUnassigned code) h = ⊎_elim (λ none. absurd (cc)) (λ least. inl (record { least = table.MapsToUnassigned code; is = least; told = refl; code = refl })) h
refused_tables v (table.TooDeep code) h = ⊎_elim (λ none. absurd (cc)) (λ least. inl (record { least = table.TooDeep code; is = least; told = refl; code = refl })) h
refused_tables v (table.TooLong code) h = ⊎_elim (λ none. absurd (cc)) (λ least. inl (record { least = table.TooLong code; is = least; told = refl; code = refl })) h
refused_tables v (table.AmbiguousPair code) h = ⊎_elim (λ none. absurd (cc)) (λ least. inl (record { least = table.AmbiguousPair code; is = least; told = refl; code = refl })) h
refused_tables v (table.HangulWrong code) h = ⊎_elim (λ none. absurd (cc)) (λ least. inl (record { least = table.HangulWrong code; is = least; told = refl; code = refl })) h
refused_tables v table.Memory h = inr refl
