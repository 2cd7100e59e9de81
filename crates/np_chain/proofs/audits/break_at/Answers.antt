use Rattle.std.proofs.Common.{◌∙◌, sym}
use Rattle.np_chain.proofs.BreakLemmas.{break-new, break-neither}
use Rattle.np_chain.proofs.audits.break_at.Goals as goal

pub returns-then-joins_old_parts : goal.returns-then-joins_old_parts
returns-then-joins_old_parts c =
    sym
    (break-new c.args.old.now c.args.new.now c.args.code (sym c.assigned_code.ensures ∙ c.if-assigned_code.false)
    (sym c.joins_old_parts.ensures ∙ c.if-joins_old_parts.true))

pub returns : goal.returns
returns c =
    sym
    (break-neither c.args.old.now c.args.new.now c.args.code (sym c.assigned_code.ensures ∙ c.if-assigned_code.false)
    (sym c.joins_old_parts.ensures ∙ c.if-joins_old_parts.false))
