use Rattle.std.proofs.Common.{length, refl}
use Rattle.std.proofs.lemmas.Bool.{leb-true}
use Rattle.np_caseless.specs.Folded.{folded_by}
use Rattle.np_caseless.proofs.ImageTableLemmas.{short_image}
use Rattle.np_caseless.proofs.folding_faults.is_folded_short.Goals as goal

pub returns-in-Some : goal.returns-in-Some
returns-in-Some g c = λ yes.
    let parts = c.in-Some.parts.now in
    short_image (folded_by (g.T.NormTable.model c.args.table.now) c.args.foldings.now) c.meets_conditions.ensures c.args.code (length parts)
    c.in-Some._images.now parts c.in-Some.ensures.images c.in-Some.ensures.parts refl (leb-true (length parts) 64 yes)
