use Rattle.np_c.proofs.node_exports.npss_node_same.Goals as goal

pub returns-in-Some-clause-told : goal.returns-in-Some-clause-told
returns-in-Some-clause-told c = rw (c.in-Some.ensures.some, ← c.deref_mut.ensures.value) c.same_in-answer.ensures.told
