-- Breaks found code point by code point: a way to the one list of `AreBreaks`.
use Rattle.std.specs.Prelude.{◌≡◌, ◌≢◌, ℕ, ◌+◌, ◌<◌, ◌≤◌, nat_lt, List, length, Option, Some, None, slice_get, MatchOption, if◌then◌else◌}
use Rattle.std.specs.List.{All, AllPairs, Contains}
use Rattle.np_chain.specs.Breaks as version
use Rattle.np_chain.specs.declared.breaks.Break.{Break}
use Rattle.np_chain.specs.declared.breaks.BreakKind.{BreakKind}
use Rattle.np_caseless.specs.Breaks.{IsBreakOf}
use Rattle.np_caseless.specs.Folded.{FoldedVersion}
use Rattle.np_caseless.specs.declared.breaks.FoldedBreak.{FoldedBreak}
use Rattle.np_caseless.specs.declared.breaks.FoldedBreakKind.{FoldedBreakKind}
use Rattle.np_caseless.specs.declared.breaks.FoldedBreakKind.TheVariants.{OfVersion, FoldingChanged}

-- the versions break nothing at a code point
abbrev pub HasNoneOf : FoldedVersion → FoldedVersion → ℕ → Type 0
HasNoneOf old new c = (kind : BreakKind) → ¬ (version.HasBreak old.version new.version c kind)

-- all breaks of the code points below n
pub record AreBelow (old new : FoldedVersion) (n : ℕ) (breaks : List FoldedBreak) : Type 0 where
  pub each : All (λ b. IsBreakOf old new b.code b.kind) breaks
  pub below : All (λ b. b.code < n) breaks
  pub rises : AllPairs (λ b d. b.code < d.code) breaks
  pub whole : (c : ℕ) (kind : FoldedBreakKind) → c < n → IsBreakOf old new c kind → Contains breaks (record { kind = kind; code = c })

-- the breaks before a place are those of the code points below n, and those from it on are of others
pub record IsNext (breaks : List Break) (next n : ℕ) : Type 0 where
  pub before : (k : ℕ) (b : Break) → k < next → slice_get breaks k ≡ Some b → b.code < n
  pub behind : (k : ℕ) (b : Break) → next ≤ k → slice_get breaks k ≡ Some b → n ≤ b.code

-- the break at a place is that of n, of this kind; or there is none of n there
abbrev pub IsAtNext : List Break → ℕ → ℕ → Option BreakKind → Type 0
IsAtNext breaks next n found =
    MatchOption found ((b : Break) → slice_get breaks next ≡ Some b → b.code ≢ n) (λ kind. slice_get breaks next ≡ Some (record { kind = kind; code = n }))

-- the place behind that of a break that was found
abbrev pub place_behind : List Break → ℕ → Option BreakKind → ℕ
place_behind breaks next None = next
place_behind breaks next (Some kind) = if nat_lt next (length breaks) then next + 1 else next

-- of the first break of the versions and the first of the foldings the one that is told
abbrev pub first_break : Break → Option ℕ → FoldedBreak
first_break b None = record { kind = OfVersion b.kind; code = b.code }
first_break b (Some code) =
    if nat_lt code b.code then record { kind = FoldingChanged; code = code } else record { kind = OfVersion b.kind; code = b.code }
