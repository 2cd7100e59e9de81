use Rattle.std.proofs.Common.{◌≡◌, ℕ, ◌<◌, None}
use Rattle.np_chain.specs.inside.BreakTests.{break_of}
use Rattle.np_chain.proofs.audits.extends.Given as goal

abbrev pub invariant-loop-code : goal.invariant-loop-code
invariant-loop-code l = (c : ℕ) → c < l.code → break_of l.old l.new c ≡ None
