use Rattle.std.proofs.Common.{sym, ◌∙◌}
use Rattle.std.specs.Str.Iter.{chars_rest}
use Rattle.np_forms.proofs.TextLemmas.{IsReadAssigned-next, IsReadAssigned-end, IsReadAssigned-stop}
use Rattle.np_forms.proofs.assigned.first_unassigned_of_few.Goals as goal

pub returns-in_default-clause-none : goal.returns-in_default-clause-none
returns-in_default-clause-none g c =
    IsReadAssigned-end (g.T.NormTable.model c.args.table.now) c.args.text.now (chars_rest c.scan.iter) c.scan.invariant c.in_default.ensures.steps.0.0

pub returns-then-not-assigned-clause-some : goal.returns-then-not-assigned-clause-some
returns-then-not-assigned-clause-some g c =
    let stop = IsReadAssigned-stop _ c.args.text.now (chars_rest c.scan.iter) c.in-Some.code (chars_rest c.next.new.self) c.scan.invariant c.in-Some.ensures.steps.0 (sym c.assigned.ensures ∙ c.if-not-assigned.true) in
    rw c.as_str-here.ensures stop

pub scan-preserved : goal.scan-preserved
scan-preserved g c =
    IsReadAssigned-next (g.T.NormTable.model c.args.table.now) c.args.text.now (chars_rest c.scan.iter) c.in-Some.code (chars_rest c.next.new.self) c.scan.invariant c.in-Some.ensures.steps.0 (sym c.assigned.ensures ∙ c.if-not-assigned.false)
