use Rattle.std.proofs.Common.{inl, inr, refl}
use Rattle.std.proofs.lemmas.Result.{err_from_is_err_and}
use Rattle.np_caseless_job.proofs.key_under.made_of_tables.Goals as goal

pub returns-in-Err-clause-refused : goal.returns-in-Err-clause-refused
returns-in-Err-clause-refused g c = inl (c.in-Err.brk, refl, c.in-Err.ensures.first, record { same = refl; clear = c.requires.clear })

pub returns-in_err-made_of_input-clause-refused : goal.returns-in_err-made_of_input-clause-refused
returns-in_err-made_of_input-clause-refused g c =
    let p = err_from_is_err_and c.from_residual.result c.from_residual.ensures.1 in
    rw (p.1, p.2)
    (inr (c.in_default.ensures.extends.0 refl, (c.in_err-made_of_input.field-0.0, refl, c.in_err-made_of_input.ensures.refused)))
