-- The line on a refusal, as text.
use Rattle.std.specs.Prelude.{ℕ, List, string_bytes}
use Rattle.np_jobs.specs.declared.lines.Line.{Line}
use Rattle.np_jobs.specs.declared.lines.Line.TheVariants.{Fixed, Made}

abbrev pub line_bytes : Line → List ℕ
line_bytes (Fixed text) = text.now
line_bytes (Made text) = string_bytes text
