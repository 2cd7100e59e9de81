-- The commands, options and places of the command line of `npss_caseless`, as `clap` reads them.
use Rattle.std.specs.Prelude.{codes}
use Rattle.clap.specs.Words.{App, new_app, with_rule, with_subcommand}
use Rattle.np_words.specs.Commands.{files_rule, form_rule, key_app, with_settings}

-- compare --form FORM FILES..
abbrev pub compare_app : App
compare_app = with_rule (with_rule (new_app (codes "compare")) form_rule) (files_rule (codes "FILES"))

-- audit FILES..
abbrev pub audit_app : App
audit_app = with_rule (new_app (codes "audit")) (files_rule (codes "FILES"))

abbrev pub caseless_app : App
caseless_app = with_subcommand (with_subcommand (with_subcommand (with_settings (new_app (codes "npss_caseless")))
    key_app.top) compare_app.top) audit_app.top
