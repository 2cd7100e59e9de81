use Rattle.std.proofs.Common.{◌≡◌, ℕ, ◌<◌, ◌++◌, ◌∷◌, [], true, ap, ◌∙◌, arith}
use Rattle.np_forms.proofs.Words.{not_from_false, chars_rest, class_of, is_non_starter, CodeAndClass, with_class}
use Rattle.np_forms.proofs.ComposeLemmas.{not_starter_from}
use Rattle.np_forms.proofs.HeldLemmas.{IsFrontHeld-next}
use Rattle.np_forms.proofs.held.hold_front.Goals as goal

pub scan-preserved : goal.scan-preserved
scan-preserved g c =
    let v = g.T.NormTable.model c.args.table.now in
    let d = c.in-Some.c in
    let some : 0 < class_of v d = omega (arith, c.class-class.ensures, c.if-class-eq0.false) in
    let non_starter : is_non_starter v d ≡ true = not_from_false _ (not_starter_from (class_of v) d some) in
    let made : c.new.result ≡ with_class v d = c.new.ensures ∙ ap (λ (k : ℕ). record { code = d; class = k }) c.class-class.ensures in
    let grown = c.in_ok-push.ensures.items ∙ ap (λ (x : CodeAndClass). c.scan.pending.items ++ x ∷ []) made in
    IsFrontHeld-next v c.args.compat c.args.text.now c.args.pending.now.items (chars_rest c.scan.iter) (chars_rest c.next.new.self) d _ _ c.in-Some.ensures.steps.0 (c.is_own.ensures c.if-not-is_own.false) non_starter grown c.scan.invariant
