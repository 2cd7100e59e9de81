-- A schedule, read line by line.
use Rattle.std.specs.Prelude.{◌≡◌, ℕ, ◌+◌, ◌≤◌, List, [], ◌∷◌, ◌++◌, length, ◌⊎◌}
use Rattle.np_code_points.specs.Lines.{Numbered, Walk}
use Rattle.np_schedules.specs.Events.{Event}
use Rattle.np_schedules.specs.ScheduleFiles.{AreEventLines}
use Rattle.np_schedules.specs.ScheduleLines.{IsEventLine}
use Rattle.np_schedules.specs.declared.reading.ScheduleFault.{ScheduleFault}
use Rattle.np_schedules.specs.declared.reading.ScheduleFault.TheVariants.{Line, Memory}
use Rattle.np_schedules.specs.declared.reading.faults.LineFault.{LineFault}
use Rattle.np_schedules.specs.declared.reading.faults.LineFault.TheVariants as told
use Rattle.np_schedules.specs.inside.LineReading.{IsNoneOf}

-- the fault of a line that gave nothing
abbrev pub fault_of : ℕ → LineFault → ScheduleFault
fault_of line told.Unfit = Line line
fault_of line told.Memory = Memory

-- this line says none, and is named
abbrev pub Misses : {A : Type 0} → ℕ → (A → Type 0) → ScheduleFault → Type 0
Misses number P (Line line) = (line ≡ number) × IsNoneOf P
Misses number P Memory = Unit {0}

-- the next line says this
pub record NextSays {A : Type 0} (says : List ℕ → A → Type 0) (old : Walk) (value : A) (new : Walk) : Type 0 where
  pub line : Numbered
  pub left : old.left ≡ line ∷ new.left
  pub total : new.total ≡ old.total
  pub is : says line.text value

-- the next line says none, and is named
pub record NextFalls {A : Type 0} (says : List ℕ → A → Type 0) (walk : Walk) (number : ℕ) : Type 0 where
  pub line : Numbered
  pub behind : List Numbered
  pub left : walk.left ≡ line ∷ behind
  pub none : IsNoneOf (says line.text)
  pub here : number ≡ line.line

-- there is no next line, and the one behind the last is named
pub record WalkEnds (walk : Walk) (number : ℕ) : Type 0 where
  pub none : walk.left ≡ []
  pub here : number ≡ walk.total + 1

-- a line that takes no memory is named
abbrev pub NamesNext : {A : Type 0} → (List ℕ → A → Type 0) → Walk → ScheduleFault → Type 0
NamesNext says walk (Line line) = NextFalls says walk line ⊎ WalkEnds walk line
NamesNext says walk Memory = ⊥

-- there is a next line
pub record HasNext (walk : Walk) : Type 0 where
  pub line : Numbered
  pub behind : List Numbered
  pub left : walk.left ≡ line ∷ behind

-- one that takes memory is named, or memory ran out for it
abbrev pub NextRefuses : {A : Type 0} → (List ℕ → A → Type 0) → Walk → ScheduleFault → Type 0
NextRefuses says walk (Line line) = NextFalls says walk line ⊎ WalkEnds walk line
NextRefuses says walk Memory = HasNext walk

-- a line says one more event, and there may be so many
pub record AddsEvent (versions nodes : ℕ) (old : List Event) (text : List ℕ) (new : List Event) : Type 0 where
  pub event : Event
  pub says : IsEventLine versions nodes text event
  pub grown : new ≡ old ++ event ∷ []
  pub most : length new ≤ 1000000

-- it says none, or there may be no more; it is named
pub record AddsNoEvent (versions nodes : ℕ) (old : List Event) (line : Numbered) (number : ℕ) : Type 0 where
  pub none : IsNoneOf (IsEventLine versions nodes line.text) ⊎ (1000000 ≤ length old)
  pub here : number ≡ line.line

abbrev pub AddsNone : ℕ → ℕ → List Event → Numbered → ScheduleFault → Type 0
AddsNone versions nodes old line (Line number) = AddsNoEvent versions nodes old line number
AddsNone versions nodes old line Memory = Unit {0}

-- the lines before those left say these events
pub record HasTaken (versions nodes : ℕ) (lines left : List Numbered) (events : List Event) : Type 0 where
  pub done : List Numbered
  pub stands : lines ≡ done ++ left
  pub says : AreEventLines versions nodes done events

-- the first line that can't stand among the events
pub record IsUnfitEvent (versions nodes : ℕ) (lines : List Numbered) (number : ℕ) : Type 0 where
  pub before : List Numbered
  pub unfit : Numbered
  pub behind : List Numbered
  pub lines_are : lines ≡ before ++ unfit ∷ behind
  pub events : List Event
  pub stand : AreEventLines versions nodes before events
  pub falls : IsNoneOf (AreEventLines versions nodes (before ++ unfit ∷ []))
  pub here : number ≡ unfit.line

abbrev pub NamesUnfit : ℕ → ℕ → List Numbered → ScheduleFault → Type 0
NamesUnfit versions nodes lines (Line line) = IsUnfitEvent versions nodes lines line
NamesUnfit versions nodes lines Memory = Unit {0}
