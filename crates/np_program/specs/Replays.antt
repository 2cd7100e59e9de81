-- How `replay` ends.
use Rattle.std.specs.Prelude.{◌≡◌, ◌⊎◌, ℕ, Bool, true, List, length}
use Rattle.std.specs.List.{AllZip}
use Rattle.np_chain.specs.Chain.{IsChain, IsFirstBroken}
use Rattle.np_chain.specs.declared.breaks.Break.{Break}
use Rattle.np_code_points.specs.declared.forms.Form.{Form}
use Rattle.np_versions.specs.Versions.{VersionData}
use Rattle.np_schedules.specs.Events.{ScheduleData}
use Rattle.np_world.specs.ReportTexts.{report_lines}
use Rattle.np_world.specs.Reports.{NodeReport}
use Rattle.np_world.specs.Runs.{AreKeysUnder, IsLast, texts_in}
use Rattle.np_schedules.specs.ScheduleFiles.{IsFaultyLine, SaysSchedule, TakesMemory}
use Rattle.np_world.specs.World.{IsRun, MachineNode, Setting, World, start}
use Rattle.np_world.specs.declared.replies.Reply.{Reply}
use Rattle.np_jobs.specs.Chains.{LacksOne, VersionReaders, WereBuilt}
use Rattle.np_jobs.specs.Ends.{JobEnds}
use Rattle.np_jobs.specs.Streams.{Stream, IsUntouched, WasNotRead, WasRead}
use Rattle.np_jobs.specs.Wraps.{Wraps}
use Rattle.np_jobs.specs.declared.faults.JobFault.{JobFault}
use Rattle.np_jobs.specs.declared.faults.JobFault.TheVariants.{Version, NotExtension, Replay}
use Rattle.np_jobs.specs.declared.faults.ReplayFault.{ReplayFault}
use Rattle.np_jobs.specs.declared.faults.ReplayFault.TheVariants.{Schedule, Line, Memory}

-- the readers of a job over a schedule and versions
pub record ReplayReaders : Type 0 where
  pub schedule_file : Stream
  pub versions : List VersionReaders

-- ---- what is written

-- a node of the machine, as the report tells it: the place of its version, and its strings, each beside its key under the last version
pub record IsNodeTold (last : VersionData) (form : Form) (node : MachineNode) (told : NodeReport) : Type 0 where
  pub index : told.index ≡ node.index
  pub strings : texts_in told.entries ≡ node.strings
  pub keys : AreKeysUnder last form told.entries

-- the machine's run over a schedule, as text: its replies, and its nodes at the end
pub record IsReplay (form : Form) (versions : List VersionData) (schedule : ScheduleData) (bytes : List ℕ) : Type 0 where
  pub setting : Setting
  pub setting_is : setting ≡ record { versions = versions; form = form; room = schedule.room }
  pub last : VersionData
  pub is_last : IsLast versions last
  pub replies : List Reply
  pub world : World
  pub run : IsRun setting (start schedule.starts) schedule.events replies world
  pub nodes : List NodeReport
  pub told : AllZip (IsNodeTold last form) world.nodes nodes
  pub bytes_are : bytes ≡ report_lines replies nodes

-- the schedule's file was read, and says this schedule over so many versions
pub record WasScheduled (schedule_file : Stream) (count : ℕ) (schedule : ScheduleData) : Type 0 where
  pub script : List ℕ
  pub read : WasRead schedule_file script
  pub says : SaysSchedule script schedule
  pub over : schedule.versions ≡ count

pub record MakesReplay (form : Form) (readers : ReplayReaders) (is_yes : Bool) (bytes : List ℕ) : Type 0 where
  pub versions : List VersionData
  pub built : WereBuilt readers.versions versions
  pub chain : IsChain versions
  pub schedule : ScheduleData
  pub scheduled : WasScheduled readers.schedule_file (length versions) schedule
  pub is : IsReplay form versions schedule bytes
  pub done : is_yes ≡ true

-- ---- what is refused, in this order

-- a first line that can't stand; or memory ran out, but only where a line takes some
abbrev pub LacksLine : List ℕ → ℕ → ReplayFault → Type 0
LacksLine script count fault = Wraps Line (IsFaultyLine script count) fault ⊎ ((fault ≡ Memory) × TakesMemory script)

-- the schedule's file was not read whole; or it was, and is refused
abbrev pub LacksSchedule : Stream → ℕ → ReplayFault → Type 0
LacksSchedule schedule_file count fault =
    Wraps Schedule (WasNotRead schedule_file) fault ⊎ ((script : List ℕ) × WasRead schedule_file script × LacksLine script count fault)

-- one version doesn't extend the one before, and the schedule was not looked at; or it is not replayed over their chain
abbrev pub LacksReport : Stream → List VersionData → JobFault → Type 0
LacksReport schedule_file versions fault =
    ((place : ℕ) × (brk : Break) × (fault ≡ NotExtension place brk) × IsFirstBroken versions place brk × IsUntouched schedule_file)
    ⊎ (IsChain versions × Wraps Replay (LacksSchedule schedule_file (length versions)) fault)

-- a version was refused, and the schedule not looked at; or all were built, and give no report
abbrev pub RefusesReplay : ReplayReaders → JobFault → Type 0
RefusesReplay readers fault =
    (Wraps Version (LacksOne readers.versions) fault × IsUntouched readers.schedule_file)
    ⊎ ((versions : List VersionData) × WereBuilt readers.versions versions × LacksReport readers.schedule_file versions fault)

-- `replay`: the machine's run over the schedule, as text
abbrev pub ReplayEnds : Form → ReplayReaders → Stream → Stream → ℕ → Type 0
ReplayEnds form readers output error status = JobEnds (MakesReplay form readers) (RefusesReplay readers) output error status
