use Rattle.std.proofs.Common.{Bool, cond, Some, None, ap, sym, ◌∙◌}
use Rattle.np_foldings.specs.inside.FieldReading.{counted}
use Rattle.np_foldings.proofs.FieldGrammar.{mapping_counted, mapping_other, mapping_none}
use Rattle.np_foldings.proofs.mappings.read_mapping.Goals as goal

pub returns-then-not-branch : goal.returns-then-not-branch
returns-then-not-branch c =
    let codes = c.read_scalars.new.codes.items in
    sym (mapping_none c.args.status c.args.field.now (c.in_ok-read_scalars.ensures ∙ ap (λ (b : Bool). cond b (Some codes) None) c.if-not-branch.true))

pub returns-then-is_counted : goal.returns-then-is_counted
returns-then-is_counted c =
    let codes = c.read_scalars.new.codes.items in
    sym (mapping_counted c.args.status c.args.field.now codes
    (c.in_ok-read_scalars.ensures ∙ ap (λ (b : Bool). cond b (Some codes) None) c.if-not-branch.false)
    (ap (counted c.args.status) (sym c.len.ensures.value) ∙ sym c.is_counted.ensures ∙ c.if-is_counted.true))

pub returns-else-is_counted : goal.returns-else-is_counted
returns-else-is_counted c =
    let codes = c.read_scalars.new.codes.items in
    sym (mapping_other c.args.status c.args.field.now codes
    (c.in_ok-read_scalars.ensures ∙ ap (λ (b : Bool). cond b (Some codes) None) c.if-not-branch.false)
    (ap (counted c.args.status) (sym c.len.ensures.value) ∙ sym c.is_counted.ensures ∙ c.if-is_counted.false))
