use Rattle.std.proofs.Common.{◌≡◌, bit_and, subst, sym, ◌∙◌, arith, w64}
use Rattle.std.proofs.lemmas.Nat.{and_mask}
use Rattle.std.proofs.lemmas.Nat.Bits.{bit_at-trailing_zeros}
use Rattle.std.specs.Int.{bit_at}
use Rattle.np_caseless.proofs.leads.lowest.Goals as goal
use lib.Count.{count_trailing_zeros}

pub returns : goal.returns
returns c =
    let bits = c.args.bits in
    let t = count_trailing_zeros 64 bits in
    let lowest = bit_at-trailing_zeros w64 bits c.requires c.ranges.bits.fits in
    let same : t ≡ bit_and t 63 = sym (and_mask t 6 ∙ omega (arith, lowest.0)) in
    record {
      within = omega (arith, lowest.0, same);
      set = subst (λ n. bit_at bits n ≡ 1) same lowest.1;
      first = λ k lt. lowest.2 k (omega (arith, lt, same));
    }
