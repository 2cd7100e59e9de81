use Rattle.std.proofs.Common.{List, flat_map, map, take, drop, suc, sym, refl, subst, ◌∙◌, arith}
use Rattle.std.proofs.lemmas.List.{take_all}
use Rattle.std.proofs.lemmas.Result.{err_from_is_err_and}
use Rattle.std.specs.List.{AllZip}
use Rattle.np_code_points.specs.Watched.{device_of}
use Rattle.np_jobs.proofs.OpeningLemmas.{names_at, opened_more, unopened_among}
use Rattle.np_words.specs.Words.{names_of}
use Rattle.np_words.specs.declared.files.VersionFiles.{VersionFiles}
use Rattle.np_jobs.proofs.opening.open_versions.Goals as goal

pub returns-in_err-open_behind-clause-told : goal.returns-in_err-open_behind-clause-told
returns-in_err-open_behind-clause-told g c =
    let p = err_from_is_err_and c.from_residual.result c.from_residual.ensures.1 in
    let opener = c.args.opener.now in
    let versions = c.args.versions.now in
    let at = c.loop-version.version-index in
    let files = c.version-item.result in
    rw (p.1, p.2)
    (unopened_among (g.O.Opener.gives opener) (g.O.Opener.lacks opener) g.E.Write.contents (flat_map names_of versions)
    (flat_map names_of (take at versions)) (names_of files) (flat_map names_of (drop (suc at) versions)) _ c.args.error.now c.loop-version.error c.open_behind.new.error _
    c.loop-version.invariant.silent (names_at versions at files c.loop-version-test.true (sym c.version-item.is)) c.loop-version.invariant.files c.in_err-open_behind.ensures.told)

pub loop-version-preserved : goal.loop-version-preserved
loop-version-preserved g c =
    record {
      files = opened_more (g.O.Opener.gives c.args.opener.now) g.O.File.Read.remaining c.args.versions.now c.loop-version.version-index c.version-item.result
          c.loop-version.files.items c.open_behind.new.files.items c.loop-version-test.true (sym c.version-item.is) c.loop-version.invariant.files c.in_ok-open_behind.ensures.opened;
      count = omega (arith, c.in_ok-open_behind.ensures.count, c.loop-version.invariant.count);
      silent = c.in_ok-open_behind.ensures.silent ∙ c.loop-version.invariant.silent;
    }

pub loop-version-init : goal.loop-version-init
loop-version-init g c = record { files = rw c.new-files.ensures.items tt; count = c.new-files.ensures.len; silent = refl }

pub returns-clause-files : goal.returns-clause-files
returns-clause-files g c =
    let opener = c.args.opener.now in
    let tells = g.O.File.Read.remaining in
    subst (λ (opened : List VersionFiles). AllZip (g.O.Opener.gives opener) (flat_map names_of opened) (map (λ file. tells (device_of file)) c.loop-version.files.items))
    (take_all c.loop-version.version-index c.args.versions.now c.loop-version-test.false) c.loop-version.invariant.files

pub returns-clause-count : goal.returns-clause-count
returns-clause-count g c = omega (arith, c.loop-version.invariant.count, c.loop-version-test.false, c.loop-version.auto.version-index-end)

pub returns-clause-silent : goal.returns-clause-silent
returns-clause-silent g c = c.loop-version.invariant.silent
