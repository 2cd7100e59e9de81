use Rattle.std.proofs.Common.{refl, sym, subst}
use Rattle.np_caseless.specs.Folded.{folded_by}
use Rattle.np_caseless.specs.inside.FirstFaults.{AreMapped}
use Rattle.np_caseless.proofs.ConditionLemmas.{sound_where}
use Rattle.np_caseless.proofs.folded_tables.FoldedTable.build.Goals as goal

pub invariant_of-result : goal.invariant_of-result
invariant_of-result g c =
    let v = folded_by (g.T.NormTable.model c.args.table) c.args.foldings in
    let codes = subst (AreMapped (g.T.NormTable.model c.args.table)) (sym c.as_slice-codes.ensures.value) c.in_ok-mapped.ensures.mapped in
    let canonical = c.in_ok-canonical.ensures codes in
    let compatible = c.in_ok-compatible.ensures codes in (
      sound_where v c.args.lowercases.now c.in_ok-mapped.ensures.faultless c.meets_conditions.ensures c.are_in_order.ensures,
      record { canonically = canonical; compatibly = compatible },
      c.in_ok-ascii.ensures,
      c.in_ok-simple.ensures.images v refl canonical compatible,
      c.in_ok-simple.ensures.lowers,
    )
