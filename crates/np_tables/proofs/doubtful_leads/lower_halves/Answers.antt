use Rattle.std.proofs.Common.{bit_and, replicate, get_or, ap, ◌∙◌, arith}
use Rattle.std.proofs.lemmas.Nat.{and_mask}
use Rattle.std.proofs.lemmas.Simd.{get_or-replicate, get_or-zip2}
use Rattle.np_tables.proofs.doubtful_leads.lower_halves.Goals as goal

pub returns : goal.returns
returns c = λ k lt.
    let bytes = c.args.bytes in
    get_or-zip2 bit_and bytes (replicate 64 15) k 0 0 0 (omega (arith, c.fits-bytes.0, lt)) lt ∙ ap (bit_and (get_or bytes k 0)) (get_or-replicate 64 k 15 0 lt) ∙ and_mask (get_or bytes k 0) 4
