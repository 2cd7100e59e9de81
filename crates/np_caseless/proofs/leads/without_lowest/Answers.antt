use Rattle.std.proofs.Common.{◌-◌, arith, inl, inr}
use Rattle.std.proofs.lemmas.Bool.{cases_lt}
use Rattle.std.proofs.lemmas.Nat.Bits.{bit_at_and}
use Rattle.np_caseless.proofs.LeadLemmas.{bits_less_one}
use Rattle.np_caseless.proofs.leads.without_lowest.Goals as goal

pub returns-clause-off : goal.returns-clause-off
returns-clause-off c = λ t one first.
    let bits = c.args.bits in
    omega (arith, bit_at_and bits (bits - 1) t, (bits_less_one t bits one first).0)

pub returns-clause-kept : goal.returns-clause-kept
returns-clause-kept c = λ t one first k other.
    let bits = c.args.bits in
    elim (cases_lt k t) [
      | inl less ↦ omega (arith, bit_at_and bits (bits - 1) k, first k less)
      | inr more ↦ omega (arith, bit_at_and bits (bits - 1) k, (bits_less_one t bits one first).1 k (omega (arith, more, other)))
    ]
