use Rattle.std.proofs.Common.{◌∙◌, ap}
use Rattle.std.specs.List.{list_all}
use Rattle.np_versions.proofs.MappingLemmas.{full_of-only}
use Rattle.np_caseless.specs.Folded.{is_quiet}
use Rattle.np_caseless.proofs.folded_again.parts_are_quiet.Goals as goal

pub returns : goal.returns
returns g c =
    c.are_quiet-2.ensures
    ∙ ap (list_all (is_quiet c.args.foldings.now))
    (c.as_slice.ensures.value
    ∙ full_of-only (g.T.NormTable.model c.args.table.now) c.args.compat c.meets_conditions.ensures.shallow c.args.code c.in_ok-full.full.items c.in_ok-full.ensures)
