use Rattle.std.proofs.Common.{◌≡◌, ◌+◌, ◌/◌, ◌%◌, get_or, ap, ◌∙◌, arith}
use Rattle.std.proofs.lemmas.Simd.{get_or-chunk}
use Rattle.np_tables.proofs.Words.{high_bits}
use Rattle.np_tables.proofs.DoubtfulLeadLemmas.{doubtful_bit}
use Rattle.np_tables.proofs.doubtful_leads.doubtful_in_lanes.Goals as goal

pub look_up-by_lower-requires : goal.look_up-by_lower-requires
look_up-by_lower-requires c = λ k lt. omega (arith, c.lower_halves.ensures k lt)

pub look_up-by_upper-requires : goal.look_up-by_upper-requires
look_up-by_upper-requires c = λ k lt. c.upper_halves.ensures.bound k lt

pub returns : goal.returns
returns c = λ k lt.
    let bytes = c.args.bytes.now in
    let place : 0 + k ≡ k = omega arith in
    let here = get_or-chunk 0 64 bytes k 0 lt ∙ ap (λ n. get_or bytes n 0) place in
    doubtful_bit c.args.row.now bytes c.look_up-by_lower.result c.look_up-by_upper.result k (omega arith) (omega arith) lt
    (c.look_up-by_lower.ensures k lt ∙ ap (λ n. get_or c.args.row.now n 0) (c.lower_halves.ensures k lt ∙ ap (λ n. n % 16) here))
    (c.look_up-by_upper.ensures k lt ∙ ap (λ n. get_or high_bits n 0) (c.upper_halves.ensures.half k lt ∙ ap (λ n. n / 16) here))
