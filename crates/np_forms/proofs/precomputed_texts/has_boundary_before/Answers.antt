use Rattle.std.proofs.Common.{subst, sym}
use Rattle.np_versions.specs.Boundaries.{BeginsAtBoundary}
use Rattle.np_forms.proofs.precomputed_texts.has_boundary_before.Goals as goal

pub returns-then-begins_with_ascii : goal.returns-then-begins_with_ascii
returns-then-begins_with_ascii g c = λ _.
    let begins = c.begins_with_ascii.ensures c.if-begins_with_ascii.true in
    subst (BeginsAtBoundary (g.T.NormTable.model c.args.table.now) c.args.form) (sym begins.text_is) (c.requires c.if-ascii.true begins.code begins.low).0.boundary
