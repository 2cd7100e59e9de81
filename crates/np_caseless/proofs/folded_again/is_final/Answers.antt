use Rattle.std.proofs.Common.{◌∙◌, ap₂}
use Rattle.std.specs.Prelude.{bytes_eq}
use Rattle.np_caseless.proofs.ConditionLemmas.{final_known, final_told}
use Rattle.np_caseless.proofs.folded_again.is_final.Goals as goal

pub returns-in-Some : goal.returns-in-Some
returns-in-Some g c =
    c.eq.ensures ∙ ap₂ bytes_eq c.in-Some.ensures c.from_ref.ensures.value
    ∙ final_known (g.T.NormTable.model c.args.table.now) c.args.compat c.args.code c.meets_conditions.ensures

pub returns : goal.returns
returns g c =
    c.eq-2.ensures ∙ ap₂ bytes_eq c.as_slice.ensures.value c.from_ref-2.ensures.value
    ∙ final_told (g.T.NormTable.model c.args.table.now) c.args.compat c.args.code c.in_ok-full.full.items c.meets_conditions.ensures c.in_ok-full.ensures
