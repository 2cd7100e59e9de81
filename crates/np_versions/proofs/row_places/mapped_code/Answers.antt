use Rattle.np_versions.proofs.row_places.mapped_code.Goals as goal

pub returns : goal.returns
returns c = c.in-Some.ensures.value.1
