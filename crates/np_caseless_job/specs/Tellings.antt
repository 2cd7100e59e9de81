-- How each refusal of a job on caseless keys is told: its status, and its line.
use Rattle.std.specs.Prelude.{ℕ, List, ◌++◌, codes, is_some, if◌then◌else◌}
use Rattle.np_code_points.specs.Codes.{code_digits}
use Rattle.np_foldings.specs.Faults as foldings
use Rattle.np_foldings.specs.declared.faults.FoldingFault.{FoldingFault}
use Rattle.np_foldings.specs.declared.faults.FoldingFault.TheVariants as Foldings
use Rattle.np_caseless.specs.Breaks as breaks
use Rattle.np_caseless.specs.ConditionFaults as conditions
use Rattle.np_caseless.specs.declared.breaks.FoldedBreak.{FoldedBreak}
use Rattle.np_caseless.specs.declared.faults.ConditionFault.{ConditionFault}
use Rattle.np_jobs.specs.Tellings.{Telling, fixed, kind_line, line_head, made, memory_line, named, text_telling, version_head, version_telling}
use Rattle.np_caseless_job.specs.declared.faults.CaselessFault.{CaselessFault}
use Rattle.np_caseless_job.specs.declared.faults.CaselessFault.TheVariants.{Folded, NotExtension, Text, Memory}
use Rattle.np_caseless_job.specs.declared.faults.FoldedFault.{FoldedFault}
use Rattle.np_caseless_job.specs.declared.faults.FoldedFault.TheVariants.{Version, Folding, Condition}

abbrev pub folding_status : FoldingFault → ℕ
folding_status (Foldings.BadRecord line fault) = 4
folding_status Foldings.TooLarge = 4
folding_status Foldings.ReadFailed = 5
folding_status Foldings.Memory = 6

-- all but want of memory stand at a code point
abbrev pub condition_status : ConditionFault → ℕ
condition_status fault = if is_some (conditions.code_of fault) then 4 else 6

-- version K folding: line N: NAME
abbrev pub folding_line : ℕ → FoldingFault → List ℕ
folding_line version fault =
    version_head version (codes "folding") ++ (line_head (foldings.line_of fault) ++ (foldings.name_of fault ++ codes "\n"))

-- version K folding: NAME CODE
abbrev pub condition_line : ℕ → ConditionFault → List ℕ
condition_line version fault = version_head version (codes "folding")
    ++ (conditions.name_of fault ++ (codes " " ++ (code_digits (conditions.place_of fault) ++ codes "\n")))

-- KIND CODE: the kind of a break, and its code point
abbrev pub folded_break_line : FoldedBreak → List ℕ
folded_break_line b = kind_line (breaks.name_of b.kind) b.code

abbrev pub folded_telling : FoldedFault → Telling
folded_telling (Version fault) = version_telling fault
folded_telling (Folding version fault) = named (folding_status fault) (folding_line version fault)
folded_telling (Condition version fault) = named (condition_status fault) (condition_line version fault)

abbrev pub caseless_telling : CaselessFault → Telling
caseless_telling (Folded fault) = folded_telling fault
caseless_telling (NotExtension brk) = made 1 (codes "not an extension: version 1 " ++ folded_break_line brk)
caseless_telling (Text fault) = text_telling fault
caseless_telling Memory = fixed 6 memory_line
