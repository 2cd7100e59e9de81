use Rattle.std.proofs.Common.{chars, refl, string_bytes}
use Rattle.np_jobs.proofs.key_under.make_own.Goals as goal

pub returns-in-Ok-clause-own : goal.returns-in-Ok-clause-own
returns-in-Ok-clause-own g c =
    let assigned = c.in_ok-key.ensures.key.assigned in
    record {
      assigned = assigned;
      key = chars (string_bytes c.in_ok-key.key);
      is = c.in_ok-key.ensures.normal;
      own = c.backward.ensures _ _ _ _ _ c.meets_conditions.ensures c.meets_conditions-2.ensures c.requires assigned c.in_ok-key.ensures.normal;
      says = rw (← c.as_str.ensures.value) c.in-Ok.ensures;
      done = refl;
    }
