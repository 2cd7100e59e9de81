use Rattle.std.proofs.Common.{[], sym, ◌∙◌}
use Rattle.np_caseless.specs.Folded.{folded_by}
use Rattle.np_caseless.proofs.UnfoldedLemmas.{lacks_same, lacks_unassigned, lacks_quiet, lacks_last}
use Rattle.np_caseless.proofs.not_folded.lacks_folding.Goals as goal

pub returns-then-pair : goal.returns-then-pair
returns-then-pair c = sym (lacks_same (folded_by c.args.version.now c.args.foldings.now) [] c.args.pair c.if-pair.true)

pub returns-then-not-assigned_code : goal.returns-then-not-assigned_code
returns-then-not-assigned_code c =
    sym (lacks_unassigned (folded_by c.args.version.now c.args.foldings.now) [] c.args.pair (sym c.assigned_code.ensures ∙ c.if-not-assigned_code.true))

pub returns-then-not-is_quiet_code : goal.returns-then-not-is_quiet_code
returns-then-not-is_quiet_code c =
    sym (lacks_quiet (folded_by c.args.version.now c.args.foldings.now) [] c.args.pair (sym c.is_quiet_code.ensures ∙ c.if-not-is_quiet_code.true))

pub returns : goal.returns
returns c =
    c.is_quiet_code-2.ensures
    ∙ sym
    (lacks_last (folded_by c.args.version.now c.args.foldings.now) [] c.args.pair c.if-pair.false (sym c.assigned_code.ensures ∙ c.if-not-assigned_code.false)
    (sym c.is_quiet_code.ensures ∙ c.if-not-is_quiet_code.false))
