-- How the program is used.
use Rattle.std.specs.Prelude.{ℕ, List, ◌++◌, codes}

-- how the program is used, a line per command
abbrev pub caseless_usage : List ℕ
caseless_usage =
    codes "usage: npss_caseless key --form FORM DATA EXCL FOLD\n" ++
    (codes "       npss_caseless key --form FORM --check-under OLDDATA OLDEXCL OLDFOLD DATA EXCL FOLD\n" ++
    (codes "       npss_caseless compare --form FORM DATA EXCL FOLD\n" ++
    codes "       npss_caseless audit OLDDATA OLDEXCL OLDFOLD NEWDATA NEWEXCL NEWFOLD\n"))

-- its version
abbrev pub caseless_version : List ℕ
caseless_version = codes "npss_caseless 0.2.0\n"
