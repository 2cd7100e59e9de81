use Rattle.std.proofs.Common.{◌∙◌, sym, ap, flat_map}
use Rattle.std.specs.List.{list_all}
use Rattle.np_versions.specs.inside.FullDecompositions.{full_of}
use Rattle.np_caseless.specs.Folded.{folded_by, is_quiet}
use Rattle.np_caseless.proofs.ConditionLemmas.{again_by}
use Rattle.np_caseless.proofs.folded_again.folds_again_by.Goals as goal

pub returns : goal.returns
returns g c =
    let v = g.T.NormTable.model c.args.table.now in
    again_by (folded_by v c.args.foldings.now) c.meets_conditions.ensures c.args.compat c.args.code c.in_ok-all_parts_are_quiet.field-0 c.requires
    (sym c.in_ok-is_final.ensures ∙ c.if-not-branch.false)
    (c.in_ok-all_parts_are_quiet.ensures ∙ ap (λ l. list_all (is_quiet c.args.foldings.now) (flat_map (full_of v c.args.compat) l)) c.folding_of-folded.ensures)
