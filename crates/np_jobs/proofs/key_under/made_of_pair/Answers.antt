use Rattle.std.proofs.Common.{inl, inr, refl}
use Rattle.std.proofs.lemmas.Result.{err_from_is_err_and}
use Rattle.np_jobs.proofs.key_under.made_of_pair.Goals as goal

pub made_of_input-requires : goal.made_of_input-requires
made_of_input-requires g c = rw (← c.version.ensures.same) (c.in_default.ensures.extends.0 refl)

pub returns-in-Err-clause-refused : goal.returns-in-Err-clause-refused
returns-in-Err-clause-refused g c =
    inl (c.in-Err.brk, refl, rw (← c.version.ensures.same) c.in-Err.ensures.first, record { same = refl; clear = c.requires })

pub returns-in_err-made_of_input-clause-refused : goal.returns-in_err-made_of_input-clause-refused
returns-in_err-made_of_input-clause-refused g c =
    let p = err_from_is_err_and c.from_residual.result c.from_residual.ensures.1 in
    rw (p.1, p.2)
    (inr (
      rw (← c.version.ensures.same) (c.in_default.ensures.extends.0 refl),
      (c.in_err-made_of_input.field-0.0, refl, c.in_err-made_of_input.ensures.refused),
    ))

pub returns-clause-made : goal.returns-clause-made
returns-clause-made g c =
    record {
      extends = rw (← c.version.ensures.same) (c.in_default.ensures.extends.0 refl);
      answered = c.in_ok-made_of_input.ensures.made;
    }
