-- How the program is used.
use Rattle.std.specs.Prelude.{ℕ, List, ◌++◌, codes}

-- how the program is used, a line per command
abbrev pub usage_lines : List ℕ
usage_lines =
    codes "usage: npss normalize --form FORM DATA EXCL\n" ++
    (codes "       npss key --form FORM DATA EXCL\n" ++
    (codes "       npss key --form FORM --check-under OLDDATA OLDEXCL DATA EXCL\n" ++
    (codes "       npss compare --form FORM DATA EXCL\n" ++
    (codes "       npss audit OLDDATA OLDEXCL NEWDATA NEWEXCL\n" ++ codes "       npss replay --form FORM SCHEDULE FILES..\n"))))
