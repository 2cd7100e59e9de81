use Rattle.std.proofs.Common.{◌≡◌, ◌+◌, ◌-◌, refl, subst, arith}
use Rattle.np_versions.specs.Boundaries.{IsBoundary}
use Rattle.np_tables.proofs.PageLemmas.{properties-read}
use Rattle.np_tables.proofs.page_table.PageTableNormTable.leading_consonants_are_boundaries.Goals as goal

pub returns : goal.returns
returns c = λ on d low high.
    let fields = c.self.inside in
    let same : 0x1100 + (d - 0x1100) ≡ d = omega (arith, low) in
    let properties = properties-read c.args.self.now fields.version c.self.view_is fields.fulls fields.index.items fields.all_properties.items c.self.invariant.pages (0x1100 + (d - 0x1100)) (omega (arith, low, high)) _ refl in
    subst (IsBoundary c.args.self.now c.args._form) same
    (properties.hints.boundary c.args._form (fields.are_leading on (d - 0x1100) (omega (arith, low, high)) c.args._form))
