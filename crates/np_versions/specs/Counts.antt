-- How many code points are assigned.
use Rattle.std.specs.Prelude.{ℕ, zero, suc, ◌+◌, Bool, if◌then◌else◌}
use Rattle.np_versions.specs.Versions.{VersionData, is_assigned}

-- how many of the numbers below n pass
unfoldable pub count_below : (ℕ → Bool) → ℕ → ℕ
count_below p zero = 0
count_below p (suc n) = count_below p n + (if p n then 1 else 0)

-- how many code points are assigned
unfoldable pub assigned_count : VersionData → ℕ
assigned_count v = count_below (is_assigned v) 0x110000
