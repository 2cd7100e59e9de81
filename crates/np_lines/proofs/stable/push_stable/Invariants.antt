use Rattle.std.proofs.Common.{chars, length}
use denote.Text.{Utf8}
use denote.Shadow.{shadow}
use Rattle.np_forms.specs.Parts.{IsEachPartStable}
use Rattle.np_lines.specs.Answers.{IsAnswer}
use Rattle.np_lines.specs.Pushed.{ArePushed}
use Rattle.np_versions.specs.Versions.{VersionData}
use Rattle.np_lines.proofs.stable.push_stable.Given as goal

abbrev pub invariant-lines : goal.invariant-lines
invariant-lines l =
    shadow (Utf8 l.rest)
    × ((v : VersionData) → IsEachPartStable v l.wanted.form (chars l.stable) → ArePushed (IsAnswer v l.wanted) l.wanted.end l.stable l.rest l.fn.out.items l.out.items)

abbrev pub decreases-lines : goal.decreases-lines
decreases-lines l = length l.rest
