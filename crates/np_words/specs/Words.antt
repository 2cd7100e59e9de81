-- What words ask for, by `clap`'s reading of them.
use Rattle.std.specs.Prelude.{ℕ, Bool, true, false, List, [], ◌∷◌, ◌++◌, ◌%◌, ◌==◌, ◌&&◌, ◌≤◌, nat_le, length, vec_len, flat_map, option_map, option_and_then, string_bytes, Option, Some, None, codes, if◌then◌else◌}
use Rattle.std.specs.Option.{option_zip}
use Rattle.std.specs.Str.{bytes_eq}
use Rattle.np_code_points.specs.declared.forms.Form.{Form}
use Rattle.np_code_points.specs.Forms.{form_named}
use Rattle.np_words.specs.declared.parsing.Job.{Job}
use Rattle.np_words.specs.declared.files.VersionFiles.{VersionFiles}
use Rattle.np_words.specs.declared.parsing.Job.TheVariants.{Help, Normalize, Key, KeyUnder, Compare, Audit, Replay}
use Rattle.clap.specs.Words.{Kinds, Row, Text, all_of, fault_of, first_of, subcommand_of}
use Rattle.np_words.specs.Commands.{program_app}

-- a command with its form, where it has one, whether it has the flag --check-under, and its files in the order of the words
pub record Asked : Type 0 where
  pub command : Text
  pub form : Option Form
  pub checks_under : Bool
  pub files : List Text

-- the names of the two files of a version, in the order of the words
abbrev pub names_of : VersionFiles → List Text
names_of files = string_bytes files.data_file ∷ (string_bytes files.exclusions_file ∷ [])

-- what a job does; help is no command
abbrev pub asked_of : Job → Asked
asked_of Help = record { command = []; form = None; checks_under = false; files = [] }
asked_of (Normalize form files) = record { command = codes "normalize"; form = Some form; checks_under = false; files = names_of files }
asked_of (Key form files) = record { command = codes "key"; form = Some form; checks_under = false; files = names_of files }
asked_of (KeyUnder form old new) = record { command = codes "key"; form = Some form; checks_under = true; files = names_of old ++ names_of new }
asked_of (Compare form files) = record { command = codes "compare"; form = Some form; checks_under = false; files = names_of files }
asked_of (Audit old new) = record { command = codes "audit"; form = None; checks_under = false; files = names_of old ++ names_of new }
asked_of (Replay form schedule_file version_files) = record {
  command = codes "replay";
  form = Some form;
  checks_under = false;
  files = string_bytes schedule_file ∷ flat_map names_of version_files.items;
}

-- a schedule is replayed over at least one version
abbrev pub HasVersions : Job → Type 0
HasVersions Help = Unit {0}
HasVersions (Normalize form files) = Unit {0}
HasVersions (Key form files) = Unit {0}
HasVersions (KeyUnder form old new) = Unit {0}
HasVersions (Compare form files) = Unit {0}
HasVersions (Audit old new) = Unit {0}
HasVersions (Replay form schedule_file version_files) = 1 ≤ vec_len version_files

-- the form that the value of --form names
abbrev pub form_of : List Row → Option Form
form_of rows = option_and_then form_named (first_of (codes "form") rows)

-- the values of two places, where both have one
abbrev pub files_of : Text → Text → List Row → Option (List Text)
files_of data_place exclusions_place rows = option_map (λ p. p.0 ∷ (p.1 ∷ [])) (option_zip (first_of data_place rows) (first_of exclusions_place rows))

-- a command with a form and its files, where both are there
abbrev pub asked_with : Text → Option Form → Option (List Text) → Option Asked
asked_with command form files = option_map (λ p. record { command = command; form = Some p.0; checks_under = false; files = p.1 }) (option_zip form files)

-- a command with a form and two files
abbrev pub text_asked : Text → List Row → Option Asked
text_asked command rows = asked_with command (form_of rows) (files_of (codes "DATA") (codes "EXCL") rows)

-- the value of a flag: `true` where the words have it
abbrev pub is_given : Option Text → Bool
is_given None = false
is_given (Some value) = bytes_eq value (codes "true")

-- the words have the flag --check-under
abbrev pub checks_under : List Row → Bool
checks_under rows = is_given (first_of (codes "check-under") rows)

-- files, where there are so many
abbrev pub counted : ℕ → List Text → Option (List Text)
counted count files = if length files == count then Some files else None

-- the values of the last place, where there are so many
abbrev pub counted_files_of : ℕ → List Row → Option (List Text)
counted_files_of count rows = option_and_then (counted count) (all_of (codes "FILES") rows)

-- the key of a text, with two files; or with the flag what an earlier version has of it, with four
abbrev pub key_asked : List Row → Option Asked
key_asked rows =
    if checks_under rows
    then option_map (λ p. record { command = codes "key"; form = Some p.0; checks_under = true; files = p.1 })
    (option_zip (form_of rows) (counted_files_of 4 rows))
    else asked_with (codes "key") (form_of rows) (counted_files_of 2 rows)

-- the comparison of two versions, four files
abbrev pub audit_asked : List Row → Option Asked
audit_asked rows =
    option_map (λ p. record { command = codes "audit"; form = None; checks_under = false; files = p.0 ++ p.1 })
    (option_zip (files_of (codes "OLDDATA") (codes "OLDEXCL") rows) (files_of (codes "NEWDATA") (codes "NEWEXCL") rows))

-- an even number of files, at least two
abbrev pub are_paired : List Text → Bool
are_paired files = nat_le 2 (length files) && (length files % 2 == 0)

-- the values of the last place, two for each version
abbrev pub paired_files_of : List Row → Option (List Text)
paired_files_of rows = option_and_then (λ files. if are_paired files then Some files else None) (all_of (codes "FILES") rows)

-- the schedule, and behind it the files of the versions
abbrev pub replay_files_of : List Row → Option (List Text)
replay_files_of rows = option_map (λ p. p.0 ∷ p.1) (option_zip (first_of (codes "SCHEDULE") rows) (paired_files_of rows))

-- the replay of a schedule over versions
abbrev pub replay_asked : List Row → Option Asked
replay_asked rows = asked_with (codes "replay") (form_of rows) (replay_files_of rows)

-- what the command of this name asks for, by what is read behind it
abbrev pub asked_in : Text → List Row → Option Asked
asked_in name rows =
    if bytes_eq name (codes "normalize") then text_asked (codes "normalize") rows
    else (if bytes_eq name (codes "key") then key_asked rows
    else (if bytes_eq name (codes "compare") then text_asked (codes "compare") rows
    else (if bytes_eq name (codes "audit") then audit_asked rows
    else (if bytes_eq name (codes "replay") then replay_asked rows else None))))

-- what is read in words, where `clap` has no fault to find in them
abbrev pub asked_unless : Kinds → Option (Text × List Row) → Option Asked
asked_unless [] found = option_and_then (λ p. asked_in p.0 p.1) found
asked_unless (_ ∷ _) found = None

-- what `clap` reads in words
abbrev pub asked_among : List Text → Option Asked
asked_among words = asked_unless (fault_of program_app words) (subcommand_of program_app words)

-- what words ask for: no words ask for help
abbrev pub asked_by : List Text → Option Asked
asked_by [] = Some (asked_of Help)
asked_by (w ∷ ws) = asked_among (w ∷ ws)
