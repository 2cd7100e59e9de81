use Rattle.std.proofs.Common.{refl, sym, arith}
use Rattle.np_chain.proofs.AuditLemmas.{Extends-end, first_is}
use Rattle.np_chain.proofs.BreakLemmas.{Extends-from_none, none_from_Extends}
use Rattle.np_chain.proofs.audits.extends.Goals as goal

pub returns-in-Some-clause-extends : goal.returns-in-Some-clause-extends
returns-in-Some-clause-extends c =
    (λ h. cc, λ ext. let none = none_from_Extends c.args.old.now c.args.new.now ext c.loop-code.code in let some = c.in-Some.ensures in cc)

pub returns-clause-extends : goal.returns-clause-extends
returns-clause-extends c = (
  λ _. Extends-end c.args.old.now c.args.new.now c.meets_conditions.ensures c.meets_conditions-2.ensures c.loop-code.code (omega arith) c.loop-code.invariant,
  λ _. refl,
)

pub returns-in-Some-clause-first : goal.returns-in-Some-clause-first
returns-in-Some-clause-first c =
    first_is c.args.old.now c.args.new.now c.loop-code.code c.in-Some.kind c.loop-code.invariant (sym c.in-Some.ensures)

pub returns-then-is_kept_by_rows-clause-extends : goal.returns-then-is_kept_by_rows-clause-extends
returns-then-is_kept_by_rows-clause-extends c = (
  λ _. Extends-from_none c.args.old.now c.args.new.now (c.is_kept_by_rows.ensures c.if-is_kept_by_rows.true),
  λ _. refl,
)
