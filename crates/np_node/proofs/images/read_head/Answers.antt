use Rattle.np_node.proofs.HeadLemmas.{passes-head, form-lacks}
use Rattle.np_node.proofs.images.read_head.Goals as goal

pub returns-clause-ok : goal.returns-clause-ok
returns-clause-ok c =
    passes-head _ _ _ _ _ c.in-Some.layout c.in-Some-read_needs.needs c.in-Some-form.form c.in-Some-number.count c.in-Some-read_needs.ensures.name c.in-Some.ensures.some c.in-Some-form.ensures.some
    c.in-Some-read_needs.ensures.some.0 c.in-Some-number.ensures.some.0

pub returns-in_default-form-clause-err : goal.returns-in_default-form-clause-err
returns-in_default-form-clause-err c = form-lacks _ c.requires _ c.in-Some.layout c.in-Some.ensures.some c.in_default-form.ensures.none
