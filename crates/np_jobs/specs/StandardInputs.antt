-- Standard input, which may have been closed at the start.
use Rattle.std.specs.Prelude.{ℕ, List, [], Option, Some}
use Rattle.np_jobs.specs.declared.standard.StandardInput.{StandardInput}
use Rattle.np_jobs.specs.declared.standard.StandardInput.TheVariants.{Open, Closed}

-- what is left of it: what its stream has left where it is open, and nothing where it is closed
abbrev pub left_of : {S : Type 0} → (S → Option (List ℕ)) → StandardInput S → Option (List ℕ)
left_of tells (Open stream) = tells stream
left_of tells Closed = Some []
