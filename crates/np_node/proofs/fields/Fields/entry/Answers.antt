use Rattle.np_node.proofs.ReadingLemmas.{passes-entry, key-lacks}
use Rattle.np_node.proofs.fields.Fields.entry.Goals as goal

pub returns-in-Ok-clause-ok : goal.returns-in-Ok-clause-ok
returns-in-Ok-clause-ok c =
    let string = c.in_ok-string.ensures.ok in
    let key = c.in-Ok.ensures.ok in
    (passes-entry _ _ _ _ _ string.0 key.0, record { string = string.1; key = key.1 })

pub returns-in-Err-clause-err : goal.returns-in-Err-clause-err
returns-in-Err-clause-err c =
    let string = c.in_ok-string.ensures.ok in
    let (inner, fault, place) = c.in-Err.ensures.err in
    key-lacks _ _ _ inner _ string.0 string.1 fault place
