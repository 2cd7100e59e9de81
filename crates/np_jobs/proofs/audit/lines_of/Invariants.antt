use Rattle.std.proofs.Common.{◌≡◌, flat_map, take, string_bytes}
use Rattle.np_jobs.specs.Tellings.{break_line}
use Rattle.np_jobs.proofs.audit.lines_of.Given as goal

abbrev pub invariant-loop-found : goal.invariant-loop-found
invariant-loop-found l = string_bytes l.text ≡ flat_map break_line (take l.found-index l.breaks)
