use Rattle.std.proofs.Common.{◌+◌, subst, arith, inl, inr}
use Rattle.np_tables.proofs.Words.{cases_lt, IsNeverSecond}
use Rattle.np_tables.proofs.page_hints.are_leading_never_second.Goals as goal

pub loop-leading-preserved : goal.loop-leading-preserved
loop-leading-preserved c = λ i lt.
    elim (cases_lt i c.loop-leading.leading) [
      | inl less ↦ c.loop-leading.invariant i less
      | inr last ↦ subst (λ k. IsNeverSecond c.args.version.now (0x1100 + k)) (omega arith) (c.is_never_second.ensures c.if-not-is_never_second.false)
    ]

pub returns : goal.returns
returns c = λ is i lt. c.loop-leading.invariant i (omega arith)
