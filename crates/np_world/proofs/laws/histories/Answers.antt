use Rattle.np_world.specs.Moments.{itself}
use Rattle.np_world.proofs.CallLemmas.{TheLaws}
use Rattle.np_world.proofs.HistoryLemmas.{histories}
use Rattle.np_world.proofs.laws.histories.Goals as goal

pub returns-clause-tables : goal.returns-clause-tables
returns-clause-tables g c =
    let laws : TheLaws = record {
      message = c.messages.ensures.one;
      message_fault = c.messages.ensures.fault;
      image = c.images.ensures.one;
      image_fault = c.images.ensures.fault;
      exchange = c.exchange.ensures.key;
      saved = c.saved.ensures.saved;
      fewer = c.saved.ensures.fewer;
      stability = c.stability.ensures;
      forms = c.idempotence.ensures.same;
    } in
    histories g.T.NormTable.model laws c.one_run.ensures

pub returns-clause-versions : goal.returns-clause-versions
returns-clause-versions g c =
    let laws : TheLaws = record {
      message = c.messages.ensures.one;
      message_fault = c.messages.ensures.fault;
      image = c.images.ensures.one;
      image_fault = c.images.ensures.fault;
      exchange = c.exchange.ensures.key;
      saved = c.saved.ensures.saved;
      fewer = c.saved.ensures.fewer;
      stability = c.stability.ensures;
      forms = c.idempotence.ensures.same;
    } in
    histories itself laws c.one_run.ensures
