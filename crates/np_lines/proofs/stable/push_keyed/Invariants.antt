use Rattle.std.proofs.Common.{length}
use denote.Text.{Utf8}
use denote.Shadow.{shadow}
use Rattle.np_lines.specs.Answers.{IsAnswer}
use Rattle.np_lines.specs.Pushed.{ArePushed}
use Rattle.np_lines.specs.inside.Keyed.{AreKeyed}
use Rattle.np_versions.specs.Versions.{VersionData}
use Rattle.np_lines.proofs.stable.push_keyed.Given as goal

abbrev pub invariant-lines : goal.invariant-lines
invariant-lines l =
    shadow (Utf8 l.rest) × shadow (Utf8 l.forms)
    × ((v : VersionData) → AreKeyed v l.wanted l.lines l.keys → ArePushed (IsAnswer v l.wanted) l.wanted.end l.lines l.rest l.fn.out.items l.out.items × AreKeyed v l.wanted l.rest l.forms)

abbrev pub decreases-lines : goal.decreases-lines
decreases-lines l = length l.rest
