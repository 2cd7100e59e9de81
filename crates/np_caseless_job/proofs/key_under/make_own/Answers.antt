use Rattle.std.proofs.Common.{chars, refl, string_bytes}
use Rattle.np_caseless_job.proofs.key_under.make_own.Goals as goal

pub returns-in-Ok-clause-own : goal.returns-in-Ok-clause-own
returns-in-Ok-clause-own g c =
    let assigned = c.in_ok-key.ensures.key.assigned in
    record {
      assigned = assigned;
      key = chars (string_bytes c.in_ok-key.key);
      is = c.in_ok-key.ensures.caseless;
      own = c.requires.leaves c.args.form _ _ assigned c.in_ok-key.ensures.caseless;
      says = rw (← c.table.ensures, ← c.version.ensures.same, ← c.as_str.ensures.value) c.in-Ok.ensures;
      done = refl;
    }
