use Rattle.std.proofs.Common.{◌<◌, ◌≤◌, arith}
use Rattle.np_tables.proofs.Words.{length-set, Nfd, Nfc, Nfkd, Nfkc}
use Rattle.np_tables.proofs.DoubtfulLeadLemmas.{half_safe, halves_more, of_each}
use Rattle.np_tables.proofs.doubtful_leads.doubtful_leads.Goals as goal

pub loop-low-preserved : goal.loop-low-preserved
loop-low-preserved c =
    let blocks = c.args.blocks.now in
    let checks = c.args.quick_checks.now in
    let low = c.loop-low.low in
    let commons = c.commons_of-commons.result in
    let is = c.commons_of-commons.ensures in
    let a = c.doubtful_bits in
    let b = c.doubtful_bits-in-loop-low in
    let d = c.doubtful_bits-in-loop-low-2 in
    let e = c.doubtful_bits-in-loop-low-3 in
    let small : low < 16 = omega arith in
    let sizes = c.loop-low.invariant.sizes in
    record {
      sizes = (omega (arith, length-set c.loop-low.nfd low a.result, sizes.0), omega (arith, length-set c.loop-low.nfc low b.result, sizes.1), omega (arith, length-set c.loop-low.nfkd low d.result, sizes.2), omega (arith, length-set c.loop-low.nfkc low e.result, sizes.3));
      nfd = halves_more Nfd blocks checks c.loop-low.nfd low a.result (omega (arith, small, sizes.0)) c.loop-low.invariant.nfd
          (half_safe Nfd blocks checks low a.result commons.c0 commons.d0 commons.e0 small a.ensures.c0 a.ensures.d0 a.ensures.e0 a.ensures.f0 is.c0 is.d0 is.e0);
      nfc = halves_more Nfc blocks checks c.loop-low.nfc low b.result (omega (arith, small, sizes.1)) c.loop-low.invariant.nfc
          (half_safe Nfc blocks checks low b.result commons.c0 commons.d0 commons.e0 small b.ensures.c0 b.ensures.d0 b.ensures.e0 b.ensures.f0 is.c0 is.d0 is.e0);
      nfkd = halves_more Nfkd blocks checks c.loop-low.nfkd low d.result (omega (arith, small, sizes.2)) c.loop-low.invariant.nfkd
          (half_safe Nfkd blocks checks low d.result commons.c0 commons.d0 commons.e0 small d.ensures.c0 d.ensures.d0 d.ensures.e0 d.ensures.f0 is.c0 is.d0 is.e0);
      nfkc = halves_more Nfkc blocks checks c.loop-low.nfkc low e.result (omega (arith, small, sizes.3)) c.loop-low.invariant.nfkc
          (half_safe Nfkc blocks checks low e.result commons.c0 commons.d0 commons.e0 small e.ensures.c0 e.ensures.d0 e.ensures.e0 e.ensures.f0 is.c0 is.d0 is.e0);
    }

pub returns : goal.returns
returns c = λ form.
    let blocks = c.args.blocks.now in
    let checks = c.args.quick_checks.now in
    let before = c.loop-low.invariant in
    let done : 16 ≤ c.loop-low.low = c.loop-low-test.false in
    of_each blocks checks c.loop-low.nfd c.loop-low.nfc c.loop-low.nfkd c.loop-low.nfkc
    (λ k lt. before.nfd k (omega (arith, lt, done))) (λ k lt. before.nfc k (omega (arith, lt, done))) (λ k lt. before.nfkd k (omega (arith, lt, done))) (λ k lt. before.nfkc k (omega (arith, lt, done))) form
