use Rattle.std.proofs.lemmas.List.Elements.{All-from_all_within, AllWithin-upto}
use Rattle.std.proofs.Common.{subst, sym}
use Rattle.np_versions.specs.CompositeLists.{AreOfFile}
use Rattle.np_chain.specs.inside.KeptRows.{AddsNoBreak}
use Rattle.np_chain.proofs.KeptRowLemmas.{adds_by_composites}
use Rattle.np_chain.proofs.kept_rows.adds_nothing.Goals as goal

pub returns : goal.returns
returns c = λ _.
    let composites = c.as_slice-composite-items.result.now in
    let of_file = subst (AreOfFile c.args.new.now) (sym c.as_slice-composite-items.ensures.same) c.pairs.ensures in
    let each = All-from_all_within (λ x. AddsNoBreak c.args.old.now c.args.new.now x.code) composites
    (AllWithin-upto (λ x. AddsNoBreak c.args.old.now c.args.new.now x.code) composites 0 c.loop-composite.composite-index _ c.loop-composite-test.false c.loop-composite.invariant) in
    adds_by_composites c.args.old.now c.args.new.now c.meets_conditions.ensures composites of_file each
