use Rattle.std.proofs.Common.{◌*◌, arith, inl, inr}
use Rattle.np_tables.proofs.Words.{cases_lt}
use Rattle.np_tables.proofs.DoubtfulLeadLemmas.{both-255}
use Rattle.np_tables.proofs.doubtful_leads.common_of_parts.Goals as goal

pub loop-part-preserved : goal.loop-part-preserved
loop-part-preserved c = λ form all d from to.
    let both = both-255 form c.loop-part.common c.common_of_part-common.result all in
    elim (cases_lt d (c.loop-part.part * 64)) [
      | inl less ↦ c.loop-part.invariant form both.0 d from less
      | inr more ↦ c.common_of_part-common.ensures form both.1 d more (omega (arith, to))
    ]
