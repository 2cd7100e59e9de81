-- The options and places of `npss_lines`, as `clap` reads them.
use Rattle.std.specs.Prelude.{true, Some, codes}
use Rattle.clap.specs.Words.{App, Rule, Text, new_rule, with_rule}
use Rattle.clap.specs.declared.builder.action.ArgAction.TheVariants.{Set, SetTrue}
use Rattle.np_words.specs.Commands.{text_app}

-- a flag, at most once
abbrev pub flag_rule : Text → Rule
flag_rule name = record (new_rule name) { long = Some name; action = Some SetTrue }

-- all words are the program's own
abbrev pub without_name : App → App
without_name a = record a { top = record a.top { no_binary_name = true } }

-- a file that may be left out
abbrev pub third_rule : Rule
third_rule = record (new_rule (codes "FOLD")) { action = Some Set }

-- --form FORM DATA EXCL --null --strict --progress
abbrev pub plain_app : App
plain_app = with_rule (with_rule (with_rule (without_name (text_app (codes "npss_lines")))
    (flag_rule (codes "null"))) (flag_rule (codes "strict"))) (flag_rule (codes "progress"))

-- and --caseless FOLD
abbrev pub lines_app : App
lines_app = with_rule (with_rule plain_app (flag_rule (codes "caseless"))) third_rule
