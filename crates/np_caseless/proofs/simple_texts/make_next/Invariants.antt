use Rattle.std.proofs.Common.{◌+◌, ◌-◌, ◌≤◌, length}
use Rattle.np_caseless.specs.inside.SimpleTexts.{AreLeads, AreMade}
use Rattle.np_caseless.proofs.simple_texts.make_next.Given as goal

abbrev pub invariant-leads : goal.invariant-leads
invariant-leads l =
    AreMade l.known l.text l.room l.made.count l.made.apart × AreLeads l.text l.made.count l.fn.front.count (l.fn.front.count + 64) l.left
    × (l.fn.front.count ≤ l.made.count)

abbrev pub decreases-leads : goal.decreases-leads
decreases-leads l = length l.text - l.made.count
