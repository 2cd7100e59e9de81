-- The commands, options and places of the command line, as `clap` reads them.
use Rattle.std.specs.Prelude.{true, Some, codes}
use Rattle.clap.specs.Lexer.{usize_max}
use Rattle.clap.specs.Words.{App, Rule, Text, new_app, new_rule, with_rule, with_subcommand}
use Rattle.clap.specs.declared.builder.action.ArgAction.TheVariants.{Append, Set, SetTrue}

-- --form FORM, once
abbrev pub form_rule : Rule
form_rule = record (new_rule (codes "form")) {
  long = Some (codes "form");
  required = true;
  action = Some Set;
}

-- --check-under, at most once
abbrev pub check_under_rule : Rule
check_under_rule = record (new_rule (codes "check-under")) { long = Some (codes "check-under"); action = Some SetTrue }

-- a file
abbrev pub file_rule : Text → Rule
file_rule name = record (new_rule name) { required = true; action = Some Set }

-- files, at least one; options may stand between them
abbrev pub files_rule : Text → Rule
files_rule name = record (new_rule name) {
  range = Some (record { start_inclusive = 1; end_inclusive = usize_max });
  required = true;
  action = Some Append;
}

-- the two files of a version
abbrev pub with_files : App → Text → Text → App
with_files a data_file exclusions_file = with_rule (with_rule a (file_rule data_file)) (file_rule exclusions_file)

-- NAME --form FORM DATA EXCL
abbrev pub text_app : Text → App
text_app name = with_files (with_rule (new_app name) form_rule) (codes "DATA") (codes "EXCL")

-- key --form FORM --check-under FILES..
abbrev pub key_app : App
key_app = with_rule (with_rule (with_rule (new_app (codes "key")) form_rule) check_under_rule) (files_rule (codes "FILES"))

-- audit OLDDATA OLDEXCL NEWDATA NEWEXCL
abbrev pub audit_app : App
audit_app = with_files (with_files (new_app (codes "audit")) (codes "OLDDATA") (codes "OLDEXCL")) (codes "NEWDATA") (codes "NEWEXCL")

-- replay --form FORM SCHEDULE FILES..
abbrev pub replay_app : App
replay_app = with_rule (with_rule (with_rule (new_app (codes "replay")) form_rule) (file_rule (codes "SCHEDULE"))) (files_rule (codes "FILES"))

-- the words begin with a command
abbrev pub with_settings : App → App
with_settings a = record a { top = record a.top { no_binary_name = true; subcommand_required = true } }

abbrev pub texts_app : App
texts_app = with_subcommand (with_subcommand (with_subcommand (with_settings (new_app (codes "npss")))
    (text_app (codes "normalize")).top) key_app.top) (text_app (codes "compare")).top

abbrev pub program_app : App
program_app = with_subcommand (with_subcommand texts_app audit_app.top) replay_app.top
