use Rattle.std.proofs.Common.{◌≡◌, ◌*◌, map, flat_map, take, vec_len}
use Rattle.np_words.specs.Words.{names_of}
use Rattle.np_words.proofs.versions.in_pairs.Given as goal

abbrev pub invariant-loop-number : goal.invariant-loop-number
invariant-loop-number l = record {
  names : flat_map names_of l.versions.items ≡ map (λ name. name.now) (take (2 * l.number) l.names);
  count : vec_len l.versions ≡ l.number;
}
