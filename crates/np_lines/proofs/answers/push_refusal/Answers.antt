use Rattle.std.proofs.Common.{[], ◌∷◌, ◌++◌, append_assoc, ◌∙◌}
use Rattle.np_lines.proofs.answers.push_refusal.Goals as goal

pub returns : goal.returns
returns c =
    c.in_ok-extend_from_slice.ensures.items ∙ (λ i. c.in_ok-push.ensures.items i ++ c.as_bytes.ensures.value i)
    ∙ append_assoc c.args.out.now.items (33 ∷ []) c.args.why.now
