use Rattle.std.proofs.Common.{chars, string_bytes, refl, sym}
use Rattle.std.proofs.lemmas.Str.{encodes-chars, IsUtf8-string_bytes}
use Rattle.np_caseless_job.proofs.key.key_of.Goals as goal

pub returns-in-Ok-clause-key : goal.returns-in-Ok-clause-key
returns-in-Ok-clause-key g c =
    let key = c.in-Ok.key in
    record {
      assigned = rw (← c.table.ensures) c.in-Ok.ensures.assigned;
      list = chars (string_bytes key);
      is = rw (← c.table.ensures, ← c.foldings.ensures) c.in-Ok.ensures.key;
      bytes_are = sym (encodes-chars (string_bytes key) (IsUtf8-string_bytes key));
      done = refl;
    }

pub returns-in-Ok-clause-caseless : goal.returns-in-Ok-clause-caseless
returns-in-Ok-clause-caseless g c = rw (← c.table.ensures, ← c.foldings.ensures) c.in-Ok.ensures.key
