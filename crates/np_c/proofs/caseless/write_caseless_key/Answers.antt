use Rattle.std.proofs.Common.{inr}
use Rattle.np_c.proofs.caseless.write_caseless_key.Goals as goal

pub returns-in-Err : goal.returns-in-Err
returns-in-Err g c =
    inr (c.in-Some.form, c.in-Some.ensures.some, record { how = inr (c.in-Err.ensures.refused, c.in_default-put_ascii.ensures.none) })

pub returns-in-Some-put_ascii : goal.returns-in-Some-put_ascii
returns-in-Some-put_ascii g c = inr (c.in-Some.form, c.in-Some.ensures.some, c.in-Some-put_ascii.ensures.key c.in-Some.form)
