-- What a later version with its foldings breaks of an earlier one: the six kinds of versions, and one more. The least of them counts.
use Rattle.std.specs.Prelude.{◌≢◌, ℕ, ◌<◌, ◌≤◌, List, codes}
use Rattle.std.specs.List.{All, AllPairs, Contains}
use Rattle.np_caseless.specs.declared.breaks.FoldedBreak.{FoldedBreak}
use Rattle.np_caseless.specs.declared.breaks.FoldedBreakKind.{FoldedBreakKind}
use Rattle.np_caseless.specs.declared.breaks.FoldedBreakKind.TheVariants.{OfVersion, FoldingChanged}
use Rattle.np_caseless.specs.Folded.{FoldedVersion, folding_at}
use Rattle.np_chain.specs.Breaks as version
use Rattle.np_chain.specs.Breaks.{IsInBoth}

-- the name of a kind, and its place in their order
abbrev pub name_of : FoldedBreakKind → List ℕ
name_of (OfVersion kind) = version.name_of kind
name_of FoldingChanged = codes "FoldingChanged"

abbrev pub number_of : FoldedBreakKind → ℕ
number_of (OfVersion kind) = version.number_of kind
number_of FoldingChanged = 7

-- the code point c has a break of this kind; the seventh is that it is assigned in both, and has another folding in new
abbrev pub HasBreak : FoldedVersion → FoldedVersion → ℕ → FoldedBreakKind → Type 0
HasBreak old new c (OfVersion kind) = version.HasBreak old.version new.version c kind
HasBreak old new c FoldingChanged = IsInBoth old.version new.version c × (folding_at new.foldings c ≢ folding_at old.foldings c)

-- the break of a code point: the least kind that it has
pub record IsBreakOf (old new : FoldedVersion) (c : ℕ) (kind : FoldedBreakKind) : Type 0 where
  pub has : HasBreak old new c kind
  pub least : (other : FoldedBreakKind) → HasBreak old new c other → number_of kind ≤ number_of other

-- each code point that has a break, once, in order
pub record AreBreaks (old new : FoldedVersion) (breaks : List FoldedBreak) : Type 0 where
  pub each : All (λ b. IsBreakOf old new b.code b.kind) breaks
  pub rises : AllPairs (λ b d. b.code < d.code) breaks
  pub whole : (c : ℕ) (kind : FoldedBreakKind) → IsBreakOf old new c kind → Contains breaks (record { kind = kind; code = c })

-- the break of the least code point that has one
pub record IsFirstBreak (old new : FoldedVersion) (first : FoldedBreak) : Type 0 where
  pub breaks : IsBreakOf old new first.code first.kind
  pub least : (c : ℕ) (kind : FoldedBreakKind) → HasBreak old new c kind → first.code ≤ c
