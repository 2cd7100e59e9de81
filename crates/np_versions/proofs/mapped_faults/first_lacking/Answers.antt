use Rattle.std.proofs.Common.{◌∙◌, sym, arith, rules}
use Rattle.np_versions.proofs.Words.{lent_entry}
use Rattle.np_versions.proofs.FaultLemmas.{first_lacking-some, first_lacking-none}
use Rattle.np_versions.proofs.mapped_faults.first_lacking.Goals as goal

pub returns-then-not-are_assigned : goal.returns-then-not-are_assigned
returns-then-not-are_assigned c =
    first_lacking-some c.args.characters.now c.loop-at.at (lent_entry c.in-Some.row) c.len-at-end.ensures.rows (sym c.in-Some.ensures.row)
    (sym c.are_assigned.ensures ∙ c.if-not-are_assigned.true) c.loop-at.invariant

pub returns : goal.returns
returns c = first_lacking-none c.args.characters.now (λ k lt. c.loop-at.invariant k (omega arith))

pub loop-at-preserved : goal.loop-at-preserved
loop-at-preserved c = search rules
