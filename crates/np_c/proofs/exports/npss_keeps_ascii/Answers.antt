use Rattle.np_c.proofs.exports.npss_keeps_ascii.Goals as goal

pub returns-in-Some-clause-told : goal.returns-in-Some-clause-told
returns-in-Some-clause-told c = rw (c.in-Some.ensures.some, ← c.deref.ensures) c.tell_ascii-answer.ensures
