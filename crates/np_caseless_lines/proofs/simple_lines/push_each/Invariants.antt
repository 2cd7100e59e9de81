use Rattle.std.proofs.Common.{◌≤◌, length}
use denote.Text.{Utf8}
use denote.Shadow.{shadow}
use Rattle.np_caseless.specs.Folded.{FoldedVersion}
use Rattle.np_caseless.specs.SimpleKeys.{IsEachPartKey}
use Rattle.np_caseless_lines.specs.inside.Answered.{AreAnswered}
use Rattle.np_code_points.specs.declared.forms.Form.{Form}
use Rattle.np_caseless_lines.proofs.simple_lines.push_each.Given as goal

abbrev pub invariant-lines : goal.invariant-lines
invariant-lines l =
    shadow (Utf8 l.rest)
    × (length l.rest ≤ length l.front)
    × ((v : FoldedVersion) (form : Form) → IsEachPartKey v form l.front l.keys → AreAnswered v form l.end l.front l.rest l.fn.out.items l.out.items)

abbrev pub decreases-lines : goal.decreases-lines
decreases-lines l = length l.rest
