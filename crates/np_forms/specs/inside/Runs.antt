-- The longest run of non-starters as a function.
use Rattle.std.specs.Prelude.{ℕ, suc, max, Bool, nat_lt, ◌==◌, List, [], ◌∷◌, if◌then◌else◌}

-- the longest run of non-starters, where n of them stand right before
unfoldable pub longest_run : (ℕ → ℕ) → ℕ → List ℕ → ℕ
longest_run ccc n [] = n
longest_run ccc n (c ∷ cs) = if ccc c == 0 then max n (longest_run ccc 0 cs) else longest_run ccc (suc n) cs

-- whether a run of more than 30 stands in the list, or reaches into it
abbrev pub runs_over : (ℕ → ℕ) → ℕ → List ℕ → Bool
runs_over ccc n cs = nat_lt 30 (longest_run ccc n cs)
