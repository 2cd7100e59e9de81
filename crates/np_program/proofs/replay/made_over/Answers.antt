use Rattle.std.proofs.Common.{inr, refl}
use Rattle.std.proofs.lemmas.Result.{err_from_is_err_and}
use Rattle.np_program.proofs.replay.made_over.Goals as goal

pub returns-in_err-made_over_chain-in-Ok-clause-refused : goal.returns-in_err-made_over_chain-in-Ok-clause-refused
returns-in_err-made_over_chain-in-Ok-clause-refused g c =
    let stopped = c.in_err-made_over_chain-in-Ok in
    let p = err_from_is_err_and c.from_residual.result c.from_residual.ensures.1 in
    rw (p.1, p.2, ← c.in-Ok.ensures.tables) (inr (stopped.ensures.chain, (stopped.field-0.0, refl, stopped.ensures.refused)))

pub returns-in_ok-made_over_chain-in-Ok-clause-made : goal.returns-in_ok-made_over_chain-in-Ok-clause-made
returns-in_ok-made_over_chain-in-Ok-clause-made g c = rw (← c.in-Ok.ensures.tables) c.in_ok-made_over_chain-in-Ok.ensures.made
