use Rattle.std.proofs.Common.{◌∙◌, refl, sym, subst, arith}
use Rattle.np_chain.specs.Breaks.{AreBreaks}
use Rattle.np_chain.proofs.AuditLemmas.{below-zero, below-none, below-some, nil_below, AreBreaks-end, breaks_of-end, nil_exactly}
use Rattle.np_chain.proofs.BreakLemmas.{Extends-from_none}
use Rattle.np_chain.proofs.audits.audit.Goals as goal
use Rattle.np_chain.proofs.audits.audit.Goals.{in-Some+in_ok-push, in_default}

pub loop-code-init : goal.loop-code-init
loop-code-init c = c.new-breaks.ensures.items ∙ below-zero c.args.old.now c.args.new.now

pub loop-code-preserved : goal.loop-code-preserved
loop-code-preserved c =
    elim c.match-break_at.branch [
      | in-Some+in_ok-push w ↦
          let items = w.in_ok-push.ensures.items in
          let more = below-some c.args.old.now c.args.new.now c.loop-code.code w.in-Some.kind (sym w.in-Some.ensures) in
          cc
      | in_default w ↦ let same = below-none c.args.old.now c.args.new.now c.loop-code.code (sym c.break_at.ensures ∙ w.in_default.is) in cc
    ]

pub returns-clause-breaks : goal.returns-clause-breaks
returns-clause-breaks c =
    subst (AreBreaks c.args.old.now c.args.new.now) (sym c.loop-code.invariant)
    (AreBreaks-end c.args.old.now c.args.new.now c.meets_conditions.ensures c.meets_conditions-2.ensures c.loop-code.code (omega arith))

pub returns-clause-value : goal.returns-clause-value
returns-clause-value c = c.loop-code.invariant ∙ breaks_of-end c.args.old.now c.args.new.now c.meets_conditions.ensures c.meets_conditions-2.ensures c.loop-code.code (omega arith)

pub returns-clause-none : goal.returns-clause-none
returns-clause-none c =
    nil_exactly c.args.old.now c.args.new.now c.loop-code.breaks.items
    (subst (AreBreaks c.args.old.now c.args.new.now) (sym c.loop-code.invariant)
    (AreBreaks-end c.args.old.now c.args.new.now c.meets_conditions.ensures c.meets_conditions-2.ensures c.loop-code.code (omega arith)))

pub returns-then-is_kept_by_rows-clause-breaks : goal.returns-then-is_kept_by_rows-clause-breaks
returns-then-is_kept_by_rows-clause-breaks c =
    let none = c.is_kept_by_rows.ensures c.if-is_kept_by_rows.true in
    subst (AreBreaks c.args.old.now c.args.new.now) (nil_below c.args.old.now c.args.new.now none 0x110000 ∙ sym c.new-breaks.ensures.items)
    (AreBreaks-end c.args.old.now c.args.new.now c.meets_conditions.ensures c.meets_conditions-2.ensures 0x110000 refl)

pub returns-then-is_kept_by_rows-clause-value : goal.returns-then-is_kept_by_rows-clause-value
returns-then-is_kept_by_rows-clause-value c =
    let none = c.is_kept_by_rows.ensures c.if-is_kept_by_rows.true in
    c.new-breaks.ensures.items ∙ sym (nil_below c.args.old.now c.args.new.now none 0x110000)
    ∙ breaks_of-end c.args.old.now c.args.new.now c.meets_conditions.ensures c.meets_conditions-2.ensures 0x110000 refl

pub returns-then-is_kept_by_rows-clause-none : goal.returns-then-is_kept_by_rows-clause-none
returns-then-is_kept_by_rows-clause-none c =
    let none = c.is_kept_by_rows.ensures c.if-is_kept_by_rows.true in
    (λ _. Extends-from_none c.args.old.now c.args.new.now none, λ _. c.new-breaks.ensures.items)
