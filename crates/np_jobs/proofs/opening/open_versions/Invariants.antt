use Rattle.std.proofs.Common.{◌≡◌, ◌*◌, flat_map, map, take, vec_len}
use Rattle.std.specs.List.{AllZip}
use Rattle.np_code_points.specs.Watched.{device_of}
use Rattle.np_words.specs.Words.{names_of}
use Rattle.np_jobs.proofs.opening.open_versions.Given as goal

abbrev pub invariant-loop-version : goal.invariant-loop-version
invariant-loop-version g l = record {
  files : AllZip (g.O.Opener.gives l.opener) (flat_map names_of (take l.version-index l.versions)) (map (λ file. g.O.File.Read.remaining (device_of file)) l.files.items);
  count : vec_len l.files ≡ 2 * l.version-index;
  silent : l.error ≡ l.initial.error;
}
