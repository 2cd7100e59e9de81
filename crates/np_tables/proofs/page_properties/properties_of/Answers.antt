use Rattle.std.proofs.Common.{◌∙◌, ap, get_or, length}
use Rattle.np_tables.proofs.Words.{get_or_default, no_properties}
use Rattle.np_tables.proofs.page_properties.properties_of.Goals as goal

pub bounds-all_properties-place_in : goal.bounds-all_properties-place_in
bounds-all_properties-place_in c = c.place_in.ensures.within (length c.args.all_properties.now) c.requires

pub returns : goal.returns
returns c =
    let all_properties = c.args.all_properties.now in
    get_or_default all_properties _ _ no_properties (c.place_in.ensures.within (length all_properties) c.requires) ∙ ap (λ k. get_or all_properties k no_properties) c.place_in.ensures.place
