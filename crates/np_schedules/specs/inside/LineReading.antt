-- What was read of a line: what it says, or why it says nothing.
use Rattle.std.specs.Prelude.{◌≡◌, Option, None}
use Rattle.np_schedules.specs.declared.reading.faults.LineFault.{LineFault}
use Rattle.np_schedules.specs.declared.reading.faults.LineFault.TheVariants.{Unfit, Memory}

-- it is so of none
abbrev pub IsNoneOf : {A : Type 0} → (A → Type 0) → Type 0
IsNoneOf {A} P = (a : A) → P a → ⊥

-- an unfit line says none; want of memory says nothing of the line
abbrev pub Refuses : {A : Type 0} → (A → Type 0) → LineFault → Type 0
Refuses P Unfit = IsNoneOf P
Refuses P Memory = Unit {0}

-- there is no such value, unless memory ran out
abbrev pub Lacks : {A : Type 0} → Option A → LineFault → Type 0
Lacks value Unfit = value ≡ None
Lacks value Memory = Unit {0}
