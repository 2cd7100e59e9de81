-- How each refusal is told: its status, and its line.
use Rattle.std.specs.Prelude.{ℕ, Bool, true, false, ◌==◌, List, [], ◌++◌, Option, Some, None, codes, if◌then◌else◌}
use Rattle.std.specs.Fmt.{decimal}
use Rattle.np_chain.specs.Breaks.{name_of}
use Rattle.np_chain.specs.declared.breaks.Break.{Break}
use Rattle.np_code_points.specs.Codes.{code_digits, unassigned}
use Rattle.np_code_points.specs.declared.channels.input.InputFault.{InputFault}
use Rattle.np_code_points.specs.declared.channels.input.InputFault.TheVariants as Inputs
use Rattle.np_versions.specs.TableFaults as tables
use Rattle.np_versions.specs.declared.faults.TableFault.{TableFault}
use Rattle.np_ucd.specs.Faults as files
use Rattle.np_ucd.specs.declared.faults.UcdFault.{UcdFault}
use Rattle.np_jobs.specs.Statuses.{file_status, input_status, tables_status}
use Rattle.np_jobs.specs.declared.faults.JobFault.{JobFault}
use Rattle.np_jobs.specs.declared.faults.JobFault.TheVariants.{Version, NotExtension, Text, Replay, WriteFailed, Memory}
use Rattle.np_jobs.specs.declared.faults.ReplayFault.{ReplayFault}
use Rattle.np_jobs.specs.declared.faults.ReplayFault.TheVariants as Replays
use Rattle.np_jobs.specs.declared.faults.TextFault.{TextFault}
use Rattle.np_jobs.specs.declared.faults.TextFault.TheVariants as Texts
use Rattle.np_jobs.specs.declared.faults.VersionFault.{VersionFault}
use Rattle.np_jobs.specs.declared.faults.VersionFault.TheVariants as Versions

-- the status of a refusal and its line; and whether the line is always the same, so that telling it takes no memory
pub record Telling : Type 0 where
  pub status : ℕ
  pub line : List ℕ
  pub is_fixed : Bool

abbrev pub fixed : ℕ → List ℕ → Telling
fixed status line = record { status = status; line = line; is_fixed = true }

abbrev pub made : ℕ → List ℕ → Telling
made status line = record { status = status; line = line; is_fixed = false }

abbrev pub memory_line : List ℕ
memory_line = codes "out of memory\n"

-- ---- versions

-- version K WHAT:
abbrev pub version_head : ℕ → List ℕ → List ℕ
version_head version what = codes "version " ++ (decimal version ++ (codes " " ++ (what ++ codes ": ")))

-- line N: where the fault has a line
abbrev pub line_head : Option ℕ → List ℕ
line_head None = []
line_head (Some line) = codes "line " ++ (decimal line ++ codes ": ")

-- version K FILE: line N: NAME
abbrev pub file_line : ℕ → List ℕ → UcdFault → List ℕ
file_line version file fault = version_head version file ++ (line_head (files.line_of fault) ++ (files.name_of fault ++ codes "\n"))

-- version K tables: NAME CODE
abbrev pub tables_line : ℕ → TableFault → List ℕ
tables_line version fault = version_head version (codes "tables")
    ++ (tables.name_of fault ++ (codes " " ++ (code_digits (tables.place_of fault) ++ codes "\n")))

-- want of memory is told alike for each file and for the tables
abbrev pub named : ℕ → List ℕ → Telling
named status line = record { status = status; line = if status == 6 then memory_line else line; is_fixed = status == 6 }

abbrev pub version_telling : VersionFault → Telling
version_telling (Versions.Data version fault) = named (file_status fault) (file_line version (codes "data") fault)
version_telling (Versions.Exclusions version fault) = named (file_status fault) (file_line version (codes "exclusions") fault)
version_telling (Versions.Tables version fault) = named (tables_status fault) (tables_line version fault)

-- ---- texts and schedules

-- WHAT: NAME, for an input that was not read whole
abbrev pub input_line : List ℕ → InputFault → List ℕ
input_line what Inputs.TooLarge = what ++ codes ": TooLarge\n"
input_line what Inputs.ReadFailed = what ++ codes ": ReadFailed\n"
input_line what Inputs.Memory = memory_line

-- unassigned XXXX at byte N, behind what says of which text
abbrev pub unassigned_line : List ℕ → ℕ → ℕ → List ℕ
unassigned_line head at code = head ++ (unassigned at code ++ codes "\n")

abbrev pub text_telling : TextFault → Telling
text_telling (Texts.Input fault) = fixed (input_status fault) (input_line (codes "input") fault)
text_telling (Texts.NotUtf8 at) = made 4 (codes "input: not UTF-8 at byte " ++ (decimal at ++ codes "\n"))
text_telling Texts.TwoLinesWanted = fixed 4 (codes "input: two lines wanted\n")
text_telling (Texts.Unassigned at code) = made 3 (unassigned_line [] at code)
text_telling (Texts.FirstUnassigned at code) = made 3 (unassigned_line (codes "first: ") at code)
text_telling (Texts.SecondUnassigned at code) = made 3 (unassigned_line (codes "second: ") at code)
text_telling Texts.Memory = fixed 6 memory_line

-- KIND CODE: the name of a break's kind, and its code point
abbrev pub kind_line : List ℕ → ℕ → List ℕ
kind_line kind code = kind ++ (codes " " ++ (code_digits code ++ codes "\n"))

abbrev pub break_line : Break → List ℕ
break_line b = kind_line (name_of b.kind) b.code

abbrev pub replay_telling : ReplayFault → Telling
replay_telling (Replays.Schedule fault) = fixed (input_status fault) (input_line (codes "schedule") fault)
replay_telling (Replays.Line line) = made 4 (codes "schedule: line " ++ (decimal line ++ codes "\n"))
replay_telling Replays.Memory = fixed 6 memory_line

-- ---- all of them

abbrev pub telling_of : JobFault → Telling
telling_of (Version fault) = version_telling fault
telling_of (NotExtension version brk) = made 1 (codes "not an extension: version " ++ (decimal version ++ (codes " " ++ break_line brk)))
telling_of (Text fault) = text_telling fault
telling_of (Replay fault) = replay_telling fault
telling_of WriteFailed = fixed 5 (codes "output: WriteFailed\n")
telling_of Memory = fixed 6 memory_line
