-- What the words of `npss_caseless` ask for, by `clap`'s reading of them.
use Rattle.std.specs.Prelude.{true, false, List, [], ◌∷◌, ◌++◌, option_map, option_and_then, string_bytes, Option, Some, None, codes, if◌then◌else◌}
use Rattle.std.specs.Option.{option_zip}
use Rattle.std.specs.Str.{bytes_eq}
use Rattle.clap.specs.Words.{Kinds, Row, Text, fault_of, subcommand_of}
use Rattle.np_words.specs.CaselessCommands.{caseless_app}
use Rattle.np_words.specs.Words.{Asked, asked_with, checks_under, counted_files_of, form_of, names_of}
use Rattle.np_words.specs.declared.caseless.CaselessJob.{CaselessJob}
use Rattle.np_words.specs.declared.caseless.CaselessJob.TheVariants.{Help, Key, KeyUnder, Compare, Audit}
use Rattle.np_words.specs.declared.files.FoldedFiles.{FoldedFiles}

-- the names of the three files of a version, in the order of the words
abbrev pub folded_names_of : FoldedFiles → List Text
folded_names_of files = names_of files.version ++ string_bytes files.folding_file ∷ []

-- what a job does; help is no command
abbrev pub caseless_asked_of : CaselessJob → Asked
caseless_asked_of Help = record { command = []; form = None; checks_under = false; files = [] }
caseless_asked_of (Key form files) = record { command = codes "key"; form = Some form; checks_under = false; files = folded_names_of files }
caseless_asked_of (KeyUnder form old new) =
    record { command = codes "key"; form = Some form; checks_under = true; files = folded_names_of old ++ folded_names_of new }
caseless_asked_of (Compare form files) = record { command = codes "compare"; form = Some form; checks_under = false; files = folded_names_of files }
caseless_asked_of (Audit old new) = record { command = codes "audit"; form = None; checks_under = false; files = folded_names_of old ++ folded_names_of new }

-- the caseless key of a text, with three files; or with the flag what an earlier version has of it, with six
abbrev pub caseless_key_asked : List Row → Option Asked
caseless_key_asked rows =
    if checks_under rows
    then option_map (λ p. record { command = codes "key"; form = Some p.0; checks_under = true; files = p.1 })
    (option_zip (form_of rows) (counted_files_of 6 rows))
    else asked_with (codes "key") (form_of rows) (counted_files_of 3 rows)

-- the comparison of two strings, with three files
abbrev pub caseless_compare_asked : List Row → Option Asked
caseless_compare_asked rows = asked_with (codes "compare") (form_of rows) (counted_files_of 3 rows)

-- the comparison of two versions, with six files
abbrev pub caseless_audit_asked : List Row → Option Asked
caseless_audit_asked rows =
    option_map (λ files. record { command = codes "audit"; form = None; checks_under = false; files = files }) (counted_files_of 6 rows)

-- what the command of this name asks for, by what is read behind it
abbrev pub caseless_asked_in : Text → List Row → Option Asked
caseless_asked_in name rows =
    if bytes_eq name (codes "key") then caseless_key_asked rows
    else (if bytes_eq name (codes "compare") then caseless_compare_asked rows
    else (if bytes_eq name (codes "audit") then caseless_audit_asked rows else None))

-- what is read in words, where `clap` has no fault to find in them
abbrev pub caseless_asked_unless : Kinds → Option (Text × List Row) → Option Asked
caseless_asked_unless [] found = option_and_then (λ p. caseless_asked_in p.0 p.1) found
caseless_asked_unless (_ ∷ _) found = None

-- what `clap` reads in words
abbrev pub caseless_asked_among : List Text → Option Asked
caseless_asked_among words = caseless_asked_unless (fault_of caseless_app words) (subcommand_of caseless_app words)

-- what words ask for: no words ask for help
abbrev pub caseless_asked_by : List Text → Option Asked
caseless_asked_by [] = Some (caseless_asked_of Help)
caseless_asked_by (w ∷ ws) = caseless_asked_among (w ∷ ws)
