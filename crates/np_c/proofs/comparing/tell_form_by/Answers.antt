use Rattle.np_c.proofs.comparing.tell_form_by.Goals as goal

pub returns-in-Some-clause-told : goal.returns-in-Some-clause-told
returns-in-Some-clause-told c = rw (c.in-Some.ensures.some, ← c.deref.ensures) c.tell_form.ensures
