use Rattle.std.proofs.Common.{◌≡◌, flat_map, take}
use Rattle.np_versions.proofs.Words.{All, IsInRange, composites_in}
use Rattle.np_versions.proofs.pairs.file_composites.Given as goal

abbrev pub invariant-loop-at : goal.invariant-loop-at
invariant-loop-at l = record {
  items : l.composites.items ≡ flat_map (composites_in l.characters) (take l.at l.characters.entries);
  range : All IsInRange l.composites.items;
}
