use Rattle.std.proofs.Common.{◌≡◌, ◌++◌, string_bytes}
use Rattle.np_world.specs.inside.ReportWriting.{is_nothing, joined_codes}
use Rattle.np_world.proofs.report_texts.write_codes.Given as goal

abbrev pub invariant-loop-code : goal.invariant-loop-code
invariant-loop-code l = (string_bytes l.out ≡ string_bytes l.initial.out ++ joined_codes l.yielded) × (l.is_first ≡ is_nothing l.yielded)
