use Rattle.std.proofs.Common.{◌≡◌, flat_map, take, string_bytes}
use Rattle.np_caseless_job.specs.Tellings.{folded_break_line}
use Rattle.np_caseless_job.proofs.audit.lines_of.Given as goal

abbrev pub invariant-loop-found : goal.invariant-loop-found
invariant-loop-found l = string_bytes l.text ≡ flat_map folded_break_line (take l.found-index l.breaks)
