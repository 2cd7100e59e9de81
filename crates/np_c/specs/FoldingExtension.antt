-- Whether a version with its foldings extends another, as C asks for it.
use Rattle.std.specs.Prelude.{◌≡◌, ◌⊎◌, ℕ}
use Rattle.np_caseless.specs.Breaks.{IsFirstBreak, number_of}
use Rattle.np_caseless.specs.Extension.{ExtendsFolded}
use Rattle.np_caseless.specs.Folded.{FoldedVersion}
use Rattle.np_caseless.specs.declared.breaks.FoldedBreak.{FoldedBreak}
use Rattle.np_c.specs.Statuses.{alone}
use Rattle.np_c.specs.declared.answers.Answer.{Answer}

-- a break, by the number of its kind, at its code point
abbrev pub told_folded_break : FoldedBreak → Answer
told_folded_break first = record { status = 11; fault = number_of first.kind; code = first.code; place = 0; length = 0 }

-- the break at the least code point that has one
pub record IsFoldedBreakAnswer (old new : FoldedVersion) (a : Answer) : Type 0 where
  pub first : FoldedBreak
  pub is : IsFirstBreak old new first
  pub told : a ≡ told_folded_break first

-- `npss_caseless_extends`: the newer version extends the older one with its foldings, or breaks this
abbrev pub IsFoldedExtensionAnswer : FoldedVersion → FoldedVersion → Answer → Type 0
IsFoldedExtensionAnswer old new a = ((a ≡ alone 0) × ExtendsFolded old new) ⊎ IsFoldedBreakAnswer old new a

-- one of the two, by its number from 1, has no foldings
abbrev pub unfolded_of_two : ℕ → Answer
unfolded_of_two number = record { status = 26; fault = number; code = 0; place = 0; length = 0 }
