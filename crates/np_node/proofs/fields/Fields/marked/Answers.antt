use Rattle.std.proofs.Common.{ℕ, ◌∷◌, [], subst}
use Rattle.std.proofs.lemmas.Bool.{both_ways}
use Rattle.np_node.proofs.MarkedReading.{passes-same-key, passes-other-key, other-lacks}
use Rattle.np_node.specs.inside.Reading.{Passes}
use Rattle.np_node.proofs.fields.Fields.marked.Goals as goal

pub returns-in-Some-eq0-clause-ok : goal.returns-in-Some-eq0-clause-ok
returns-in-Some-eq0-clause-ok c =
    let string = c.in_ok-string.ensures.ok in
    let marker = subst (λ (b : ℕ). Passes c.field.new.self c.byte.new.self (b ∷ [])) c.in-Some-eq0.field-0-test c.in-Some-eq0.ensures.some in
    (passes-same-key _ _ _ _ string.0 marker, record { string = string.1; key = string.1 })

pub returns-in-Ok-2-clause-ok : goal.returns-in-Ok-2-clause-ok
returns-in-Ok-2-clause-ok c =
    let string = c.in_ok-string.ensures.ok in
    let marker = subst (λ (b : ℕ). Passes c.field.new.self c.byte.new.self (b ∷ [])) c.in-Some-eq1.field-0-test c.in-Some-eq1.ensures.some in
    let key = c.in-Ok.ensures.ok in (
      passes-other-key _ _ _ _ _ _ string.0 marker key.0 (λ same. both_ways c.same_bytes.result c.if-same_bytes.false (c.same_bytes.ensures.1 same)),
      record { string = string.1; key = key.1 },
    )

pub returns-in-Err-clause-err : goal.returns-in-Err-clause-err
returns-in-Err-clause-err c =
    let string = c.in_ok-string.ensures.ok in
    let marker = subst (λ (b : ℕ). Passes c.field.new.self c.byte.new.self (b ∷ [])) c.in-Some-eq1.field-0-test c.in-Some-eq1.ensures.some in
    let (inner, fault, place) = c.in-Err.ensures.err in
    other-lacks _ _ _ string.0 string.1 _ marker inner _ fault place

pub returns-in-Ok-clause-ok : goal.returns-in-Ok-clause-ok
returns-in-Ok-clause-ok c = tt

pub returns-in-Some-clause-ok : goal.returns-in-Some-clause-ok
returns-in-Some-clause-ok c = tt
