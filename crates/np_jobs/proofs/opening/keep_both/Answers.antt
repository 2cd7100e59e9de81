use Rattle.std.proofs.Common.{[], ◌∷◌, ◌++◌, ◌∙◌, ap, append_assoc}
use Rattle.np_jobs.proofs.opening.keep_both.Goals as goal

pub returns-clause-both : goal.returns-clause-both
returns-clause-both g c =
    let both = c.args.both in
    c.in_ok-push-2.ensures.items ∙ ap (λ l. l ++ both.1 ∷ []) c.in_ok-push.ensures.items ∙ append_assoc c.args.files.now.items (both.0 ∷ []) (both.1 ∷ [])
