use Rattle.np_tables.specs.inside.FullRanges.{IsGrown}
use Rattle.np_tables.proofs.FullListLemmas.{OneMore}
use Rattle.np_tables.proofs.fulls.full_ranges.Given as goal

abbrev pub invariant-loop-at : goal.invariant-loop-at
invariant-loop-at l = record {
  grown : IsGrown l.fn.codes.items l.codes.items;
  state : OneMore l.version l.compat l.version.entries l.at l.codes.items l.parts.items;
}
