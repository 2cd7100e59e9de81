use Rattle.std.proofs.Common.{inl, inr, subst}
use Rattle.np_caseless.specs.Folded.{folded_by}
use Rattle.np_versions.specs.Versions.{VersionData}
use Rattle.np_c.specs.inside.FoldingSteps.{LacksFolded}
use Rattle.np_c.proofs.folding_opening.shared_folded_of.Goals as goal

pub returns-in-Err-foldings_in-clause-refused : goal.returns-in-Err-foldings_in-clause-refused
returns-in-Err-foldings_in-clause-refused c = inr (c.in-Ok.version, c.in-Ok.ensures.version, inl c.in-Err-foldings_in.ensures.refused)

pub returns-in-Err-fold_shared-clause-refused : goal.returns-in-Err-fold_shared-clause-refused
returns-in-Err-fold_shared-clause-refused c =
    let lacks = subst (λ (v : VersionData). LacksFolded c.args.data_file.now (folded_by v c.in-Ok-foldings_in.foldings) c.in-Err-fold_shared.answer) c.in-Ok-shared_over.ensures.table c.in-Err-fold_shared.ensures.refused in
    inr (c.in-Ok.version, c.in-Ok.ensures.version, inr (c.in-Ok-foldings_in.foldings, c.in-Ok-foldings_in.ensures.foldings, lacks))
