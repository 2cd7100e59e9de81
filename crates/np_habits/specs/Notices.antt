-- What words ask to be told in place of a job.
use Rattle.std.specs.Prelude.{ℕ, List, [], ◌∷◌, Option, Some, None, codes, if◌then◌else◌}
use Rattle.std.specs.Option.{option_or}
use Rattle.std.specs.Str.{bytes_eq}
use Rattle.np_habits.specs.declared.notices.Notice.{Notice}
use Rattle.np_habits.specs.declared.notices.Notice.TheVariants.{Help, Version}

-- what a word asks to be told
abbrev pub notice_at : List ℕ → Option Notice
notice_at word = if bytes_eq word (codes "--help") then Some Help else (if bytes_eq word (codes "--version") then Some Version else None)

-- the first such word in front of a word --
abbrev pub notice_by : List (List ℕ) → Option Notice
notice_by [] = None
notice_by (w ∷ ws) = if bytes_eq w (codes "--") then None else option_or (notice_at w) (notice_by ws)
