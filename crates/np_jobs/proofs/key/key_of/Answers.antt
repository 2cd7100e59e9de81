use Rattle.std.proofs.Common.{chars, string_bytes, refl, sym}
use Rattle.std.proofs.lemmas.Str.{encodes-chars, IsUtf8-string_bytes}
use Rattle.np_jobs.proofs.key.key_of.Goals as goal

pub returns-in-Ok-clause-key : goal.returns-in-Ok-clause-key
returns-in-Ok-clause-key g c =
    let key = c.in-Ok.key in
    record {
      assigned = c.in-Ok.ensures.assigned;
      list = chars (string_bytes key);
      is = c.in-Ok.ensures.normal;
      bytes_are = sym (encodes-chars (string_bytes key) (IsUtf8-string_bytes key));
      done = refl;
    }

pub returns-in-Ok-clause-normal : goal.returns-in-Ok-clause-normal
returns-in-Ok-clause-normal g c = c.in-Ok.ensures.normal
