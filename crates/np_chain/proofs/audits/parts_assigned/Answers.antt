use Rattle.std.proofs.Common.{◌∙◌, sym, ap}
use Rattle.std.proofs.lemmas.Bool.{and_parts}
use Rattle.std.specs.List.{list_all}
use Rattle.np_versions.specs.Versions.{is_assigned}
use Rattle.np_chain.proofs.SyllableLemmas.{old_parts-syllable, old_parts-listed}
use Rattle.np_chain.proofs.audits.parts_assigned.Goals as goal

pub returns-then-maps_by_arithmetic : goal.returns-then-maps_by_arithmetic
returns-then-maps_by_arithmetic c =
    let halves = and_parts _ _ (sym c.maps_by_arithmetic.ensures ∙ c.if-maps_by_arithmetic.true) in
    c.has_hangul.ensures ∙ old_parts-syllable c.args.old.now c.args.new.now c.args.code c.meets_conditions.ensures halves.1 halves.0

pub returns : goal.returns
returns c =
    c.all_assigned.ensures ∙ ap (list_all (is_assigned c.args.old.now)) c.mapping_of.ensures
    ∙ old_parts-listed c.args.old.now c.args.new.now c.args.code (sym c.maps_by_arithmetic.ensures ∙ c.if-maps_by_arithmetic.false)
