use Rattle.std.proofs.Common.{refl}
use Rattle.std.proofs.lemmas.Bool.{false≢true}
use Rattle.np_jobs.proofs.texts.text_in.Goals as goal

pub returns-in-Err-clause-refused : goal.returns-in-Err-clause-refused
returns-in-Err-clause-refused c = rw (← c.as_slice.ensures.value) (_, refl, λ utf8. false≢true (c.in-Err.ensures.valid.1 utf8), c.in-Err.ensures.place)
