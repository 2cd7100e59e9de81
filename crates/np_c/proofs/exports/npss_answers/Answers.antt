use Rattle.np_c.proofs.exports.npss_answers.Goals as goal

pub returns-in-Some-clause-made : goal.returns-in-Some-clause-made
returns-in-Some-clause-made c = rw (c.in-Some.ensures.some, ← c.deref.ensures) c.write_answers-answer.ensures
