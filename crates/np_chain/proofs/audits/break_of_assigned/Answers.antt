use Rattle.std.proofs.Common.{◌∙◌, sym}
use Rattle.np_chain.proofs.BreakLemmas.{break-lost, break-class}
use Rattle.np_chain.proofs.audits.break_of_assigned.Goals as goal

pub returns-then-not-assigned_code : goal.returns-then-not-assigned_code
returns-then-not-assigned_code c =
    sym (break-lost c.args.old.now c.args.new.now c.args.code c.requires (sym c.assigned_code.ensures ∙ c.if-not-assigned_code.true))

pub returns-then-class_of : goal.returns-then-class_of
returns-then-class_of c =
    sym
    (break-class c.args.old.now c.args.new.now c.args.code c.requires (sym c.assigned_code.ensures ∙ c.if-not-assigned_code.false)
    (λ e. c.if-class_of.true (c.class_of.ensures ∙ e ∙ sym c.class_of-2.ensures)))

pub break_of_kept-requires-clause-class : goal.break_of_kept-requires-clause-class
break_of_kept-requires-clause-class c = sym c.class_of.ensures ∙ c.if-class_of.false ∙ c.class_of-2.ensures
