use Rattle.std.proofs.Common.{[], string_bytes, get_or, sym, ap, subst, ◌∙◌}
use Rattle.np_tables.proofs.Words.{of_kind, IsPrecomputedForm, is_compat}
use Rattle.np_tables.proofs.PrecomputedFormLemmas.{precomputed_forms-more}
use Rattle.np_tables.proofs.precomputed_forms.PrecomputedForms.new.Goals as goal

pub loop-slot-preserved : goal.loop-slot-preserved
loop-slot-preserved c =
    let v = c.args.version.now in
    let form = c.args.form in
    let slot = c.loop-slot.slot in
    let lent = c.lent.ensures ∙ ap (λ b. get_or (of_kind b c.args.fulls.now) slot []) c.compat-in-loop-slot.ensures in
    rw c.in_ok-push.ensures.items
    (precomputed_forms-more v form (of_kind (is_compat form) c.args.fulls.now) c.loop-slot.bytes.items c.push_range.new.bytes.items c.as_bytes.result.now c.loop-slot.ranges.items c.in_ok-byte_range.byte_range slot
    c.loop-slot.invariant c.in_ok-byte_range.ensures.grown c.in_ok-byte_range.ensures.within c.in_ok-byte_range.ensures.byte_range
    (subst (IsPrecomputedForm v form (get_or (of_kind (is_compat form) c.args.fulls.now) slot [])) (sym c.as_bytes.ensures.value) (subst (λ l. IsPrecomputedForm v form l (string_bytes c.precompute.new.text)) lent c.in_ok-precompute.ensures)))
