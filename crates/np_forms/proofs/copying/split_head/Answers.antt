use Rattle.std.proofs.Common.{◌++◌, encode_utf8, sym, ap, ◌∙◌, append_assoc}
use Rattle.np_forms.proofs.CopyLemmas.{seam}
use Rattle.np_forms.proofs.copying.split_head.Goals as goal

pub range-requires-clause-end_boundary : goal.range-requires-clause-end_boundary
range-requires-clause-end_boundary g c =
    seam _ _ _ (c.scan.invariant.1 ∙ ap (λ l. c.scan.invariant.0 ++ l) (sym c.as_str-here.ensures)) c.as_str-here.utf8

pub scan-preserved : goal.scan-preserved
scan-preserved g c =
    let front = c.scan.invariant.0 in (front ++ encode_utf8 c.in-Some.c, c.scan.invariant.1 ∙ ap (λ l. front ++ l) c.in-Some.ensures.steps.0 ∙ sym (append_assoc front _ _))
