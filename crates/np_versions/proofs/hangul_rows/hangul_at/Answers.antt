use Rattle.std.proofs.Common.{arith, inl, inr, refl}
use Rattle.np_versions.proofs.HangulLemmas.{Stands, stands-is}
use Rattle.np_versions.proofs.hangul_rows.hangul_at.Goals as goal

pub returns-then-place-lt-L_COUNT : goal.returns-then-place-lt-L_COUNT
unfolding Stands
returns-then-place-lt-L_COUNT c = stands-is c.args.place _ (inl (omega arith, refl))

pub returns-then-place : goal.returns-then-place
unfolding Stands
returns-then-place c = stands-is c.args.place _ (inr (inl (omega arith, omega arith, refl)))

pub returns-then-place-lt-JAMO_COUNT : goal.returns-then-place-lt-JAMO_COUNT
unfolding Stands
returns-then-place-lt-JAMO_COUNT c = stands-is c.args.place _ (inr (inr (inl (omega arith, omega arith, refl))))

pub returns-else-place-lt-JAMO_COUNT : goal.returns-else-place-lt-JAMO_COUNT
unfolding Stands
returns-else-place-lt-JAMO_COUNT c = stands-is c.args.place _ (inr (inr (inr (omega arith, refl))))
