use Rattle.std.proofs.Common.{◌∙◌, sym, ap₂}
use Rattle.std.specs.Prelude.{bytes_eq}
use Rattle.np_foldings.specs.Foldings.{folding_at}
use Rattle.np_versions.specs.Versions.{is_assigned}
use Rattle.np_caseless.proofs.ChangeLemmas.{alike_told, changes_where, lacks_new, lacks_old, surrogate_stays}
use Rattle.np_caseless.proofs.folding_changes.changes_folding.Goals as goal

pub returns-in_default : goal.returns-in_default
returns-in_default g c =
    sym
    (surrogate_stays c.args.old.now c.args.new.now c.args.code c.meets_conditions.ensures.foldings c.meets_conditions-2.ensures.foldings
    c.in_default.ensures.value)

-- what the table says of the code point is what the version says
pub returns-then-not-assigned : goal.returns-then-not-assigned
returns-then-not-assigned g c =
    let same = c.in-Some.ensures.value.1 in
    sym
    (lacks_old c.args.old.now c.args.new.now c.args.code
    (sym (ap₂ is_assigned c.table.ensures same) ∙ sym c.assigned.ensures ∙ c.if-not-assigned.true))

pub returns-then-not-assigned-2 : goal.returns-then-not-assigned-2
returns-then-not-assigned-2 g c =
    let same = c.in-Some.ensures.value.1 in
    sym
    (lacks_new c.args.old.now c.args.new.now c.args.code
    (sym (ap₂ is_assigned c.table-2.ensures same) ∙ sym c.assigned-2.ensures ∙ c.if-not-assigned-2.true))

pub returns-then-eq : goal.returns-then-eq
returns-then-eq g c =
    let same = c.in-Some.ensures.value.1 in
    sym
    (alike_told c.args.old.now c.args.new.now c.args.code
    (sym (ap₂ bytes_eq (c.folding_of.ensures ∙ ap₂ folding_at c.foldings.ensures same) (c.folding_of-2.ensures ∙ ap₂ folding_at c.foldings-2.ensures same))
    ∙ sym c.eq.ensures ∙ c.if-eq.true))

pub returns : goal.returns
returns g c =
    let same = c.in-Some.ensures.value.1 in
    sym
    (changes_where c.args.old.now c.args.new.now c.args.code
    (sym (ap₂ is_assigned c.table.ensures same) ∙ sym c.assigned.ensures ∙ c.if-not-assigned.false)
    (sym (ap₂ is_assigned c.table-2.ensures same) ∙ sym c.assigned-2.ensures ∙ c.if-not-assigned-2.false)
    (sym (ap₂ bytes_eq (c.folding_of.ensures ∙ ap₂ folding_at c.foldings.ensures same) (c.folding_of-2.ensures ∙ ap₂ folding_at c.foldings-2.ensures same))
    ∙ sym c.eq.ensures ∙ c.if-eq.false))
