use Rattle.std.proofs.Common.{◌/◌, ◌^◌, replicate, get_or, ap, ◌∙◌, arith, w8, Fits}
use Rattle.std.proofs.lemmas.Simd.{Each1-get_or, get_or-replicate, get_or-zip2}
use Rattle.np_tables.proofs.doubtful_leads.upper_halves.Goals as goal

pub returns-clause-half : goal.returns-clause-half
returns-clause-half c = λ k lt.
    let bytes = c.args.bytes in
    get_or-zip2 (λ a b. a / 2 ^ b) bytes (replicate 64 4) k 0 0 0 (omega (arith, c.fits-bytes.0, lt)) lt ∙ ap (λ n. get_or bytes k 0 / 2 ^ n) (get_or-replicate 64 k 4 0 lt)

pub returns-clause-bound : goal.returns-clause-bound
returns-clause-bound c = λ k lt.
    let bytes = c.args.bytes in
    let half = get_or-zip2 (λ a b. a / 2 ^ b) bytes (replicate 64 4) k 0 0 0 (omega (arith, c.fits-bytes.0, lt)) lt ∙ ap (λ n. get_or bytes k 0 / 2 ^ n) (get_or-replicate 64 k 4 0 lt) in
    omega (arith, half, (Each1-get_or (Fits w8) bytes k 0 (omega (arith, c.fits-bytes.0, lt)) c.fits-bytes.1).fits)
