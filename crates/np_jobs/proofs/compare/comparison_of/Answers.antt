use Rattle.np_jobs.proofs.compare.comparison_of.Goals as goal

pub returns-in-Ok-clause-equal : goal.returns-in-Ok-clause-equal
returns-in-Ok-clause-equal g c =
    record {
      first_assigned = c.in_ok-both_assigned.ensures.first;
      second_assigned = c.in_ok-both_assigned.ensures.second;
      answer = rw (← c.compat.ensures) c.in-Ok.ensures;
    }
