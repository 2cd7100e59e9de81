use Rattle.std.proofs.Common.{ℕ, Option, Some, None, IfNone}
use Rattle.np_versions.proofs.pairs.Pairs.search.Goals as goal

none_then : (r : Option ℕ) (P Q : Type 0) → (P → Q) → IfNone r P → IfNone r Q
none_then None P Q f none = f none
none_then (Some x) P Q f none = tt

pub returns-clause-none : goal.returns-clause-none
returns-clause-none c = none_then c.found_at.result _ _ (λ none code has. (let own = c.place.ensures code has in none own.0 own.1)) c.found_at.ensures.none
