use Rattle.np_c.proofs.code_exports.npss_composite.Goals as goal

pub returns-in-Some-clause-told : goal.returns-in-Some-clause-told
returns-in-Some-clause-told c =
    rw (c.in-Some.ensures.some, ← c.deref.ensures, ← c.version.ensures.same) c.tell_composite-answer.ensures
