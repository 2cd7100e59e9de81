use Rattle.std.proofs.Common.{◌≡◌, true, false, sym, subst, ◌∙◌}
use Rattle.np_forms.proofs.Words.{chars_rest, is_assigned}
use Rattle.np_forms.proofs.TextLemmas.{IsReadAssigned-next, IsReadAssigned-end, IsReadAssigned-stop}
use Rattle.np_forms.proofs.assigned.first_unassigned_in_version.Goals as goal

pub returns-in_default-clause-none : goal.returns-in_default-clause-none
returns-in_default-clause-none c = IsReadAssigned-end c.args.version.now c.args.text.now (chars_rest c.scan.iter) c.scan.invariant c.in_default.ensures.steps.0.0

pub returns-then-not-assigned_code-clause-some : goal.returns-then-not-assigned_code-clause-some
returns-then-not-assigned_code-clause-some c =
    let v = c.args.version.now in
    let lacks = subst (λ n. is_assigned v n ≡ false) c.from.ensures (sym c.assigned_code.ensures ∙ c.if-not-assigned_code.true) in
    let stop = IsReadAssigned-stop v c.args.text.now (chars_rest c.scan.iter) c.in-Some.c (chars_rest c.next.new.self) c.scan.invariant c.in-Some.ensures.steps.0 lacks in
    rw c.as_str-here.ensures stop

pub scan-preserved : goal.scan-preserved
scan-preserved c =
    let v = c.args.version.now in
    let has = subst (λ n. is_assigned v n ≡ true) c.from.ensures (sym c.assigned_code.ensures ∙ c.if-not-assigned_code.false) in
    IsReadAssigned-next v c.args.text.now (chars_rest c.scan.iter) c.in-Some.c (chars_rest c.next.new.self) c.scan.invariant c.in-Some.ensures.steps.0 has
