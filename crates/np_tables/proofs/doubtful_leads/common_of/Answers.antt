use Rattle.std.proofs.Common.{◌≡◌, ap, ◌∙◌, arith, inl, inr, get_or}
use Rattle.np_tables.proofs.Words.{cases_lt, quick_check_in}
use Rattle.np_tables.proofs.DoubtfulLeadLemmas.{both-255}
use Rattle.np_tables.proofs.doubtful_leads.common_of.Goals as goal

pub loop-checks-preserved : goal.loop-checks-preserved
loop-checks-preserved c = λ form all k lt.
    let at = c.loop-checks.checks-index in
    let both = both-255 form c.loop-checks.common (get_or c.args.quick_checks.now at 0) all in
    elim (cases_lt k at) [
      | inl less ↦ c.loop-checks.invariant form both.0 k less
      | inr more ↦ let last : k ≡ at = omega (arith, lt, more) in ap (λ n. quick_check_in form (get_or c.args.quick_checks.now n 0)) last ∙ both.1
    ]
