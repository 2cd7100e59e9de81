use Rattle.std.proofs.Common.{◌+◌, ◌-◌, ◌*◌, ◌≤◌, length}
use denote.Text.{Utf8}
use denote.Shadow.{shadow}
use Rattle.np_caseless_lines.specs.inside.Answered.{AreAnswered}
use Rattle.np_caseless_lines.proofs.simple_lines.push_simple.Given as goal

abbrev pub invariant-windows : goal.invariant-windows
invariant-windows g l =
    shadow (Utf8 l.rest) × (l.most ≤ 1000) × AreAnswered l.folded l.wanted.form l.wanted.end l.text l.rest l.fn.out.items l.out.items

-- a window that is to be looked at again, and wider, comes before what is left grows shorter
abbrev pub decreases-windows : goal.decreases-windows
decreases-windows g l = 1001 * length l.rest + (1000 - l.most)
