use Rattle.std.proofs.Common.{◌≡◌, ◌≤◌, ◌<◌, true, length, subst, take}
use Rattle.std.specs.Str.{IsAscii}
use Rattle.np_versions.proofs.TableLemmas.{IsPast-ascii, past_boundary}
use Rattle.np_forms.proofs.precomputed_texts.behind_ascii.Goals as goal

pub range_from-requires : goal.range_from-requires
range_from-requires c = λ _.
    let n = c.ascii_front.result in
    let same = c.as_bytes.ensures.value in
    past_boundary c.args.text.now n c.utf8.text (subst (λ l. n ≤ length l) same c.ascii_front.ensures.fits) (subst (λ l. IsAscii (take n l)) same c.ascii_front.ensures.ascii)

pub returns : goal.returns
returns c =
    let n = c.ascii_front.result in
    let same = c.as_bytes.ensures.value in
    IsPast-ascii c.args.text.now n c.utf8.text (subst (λ l. n ≤ length l) same c.ascii_front.ensures.fits) (subst (λ l. IsAscii (take n l)) same c.ascii_front.ensures.ascii)
    (λ d. (c.args.ascii ≡ true) × (d < 128)) c.range_from.result.now c.range_from.ensures.value (λ d lt. (c.if-not-ascii.false, lt))
