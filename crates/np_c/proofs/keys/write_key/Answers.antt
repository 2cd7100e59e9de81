use Rattle.std.proofs.Common.{refl, inr}
use Rattle.np_c.proofs.keys.write_key.Goals as goal

pub returns-in-Err : goal.returns-in-Err
returns-in-Err g c = inr (c.in-Some.form, c.in-Some.ensures.some, record { how = inr (c.in-Err.ensures.refused, refl) })
