-- The law of reading: bytes say one schedule, or one line of them is the first that can't stand.
use Rattle.std.specs.Prelude.{◌≡◌, ℕ, List, ◌⊎◌}
use Rattle.np_code_points.specs.One.{HasOne}
use Rattle.np_schedules.specs.Events.{ScheduleData}
use Rattle.np_schedules.specs.ScheduleFiles.{IsFaultyLine, SaysSchedule}

-- bytes say a schedule over so many versions
abbrev pub SaysOver : List ℕ → ℕ → ScheduleData → Type 0
SaysOver bytes versions schedule = SaysSchedule bytes schedule × (schedule.versions ≡ versions)

-- one schedule, or one faulty line, and not both
pub record HasOneReading (bytes : List ℕ) (versions : ℕ) : Type 0 where
  pub either : HasOne (SaysOver bytes versions) ⊎ HasOne (IsFaultyLine bytes versions)
  pub not_both : (schedule : ScheduleData) (line : ℕ) → SaysOver bytes versions schedule → IsFaultyLine bytes versions line → ⊥
