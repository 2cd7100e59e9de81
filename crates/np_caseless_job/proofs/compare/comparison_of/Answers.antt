use Rattle.np_caseless_job.proofs.compare.comparison_of.Goals as goal

pub returns-in-Ok-clause-equal : goal.returns-in-Ok-clause-equal
returns-in-Ok-clause-equal g c =
    record {
      first_assigned = rw (← c.table.ensures) c.in_ok-both_assigned.ensures.first;
      second_assigned = rw (← c.table.ensures) c.in_ok-both_assigned.ensures.second;
      answer = rw (← c.table-2.ensures, ← c.foldings.ensures, ← c.compat.ensures) c.in-Ok.ensures;
    }
