use Rattle.std.proofs.Common.{ℕ, ap₂, ◌∙◌}
use Rattle.np_c.specs.declared.answers.Answer.{Answer}
use Rattle.np_c.proofs.exports.npss_count.Goals as goal

pub returns-in-Some-clause-count : goal.returns-in-Some-clause-count
returns-in-Some-clause-count c =
    rw (c.in-Some.ensures.some, ← c.deref.ensures, ← c.version.ensures.same)
    (ap₂ (λ (a : Answer) (k : ℕ). record a { length = k }) c.of-in-Some.ensures (c.from.ensures ∙ c.count-count.ensures))
