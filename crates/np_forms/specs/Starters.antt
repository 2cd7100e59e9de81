-- Starters and non-starters (The Unicode Standard, D107).
use Rattle.std.specs.Prelude.{ℕ, Bool, not, ◌==◌}
use Rattle.np_versions.specs.Versions.{VersionData, class_of}

-- a starter (D107)
abbrev pub is_starter : (ℕ → ℕ) → ℕ → Bool
is_starter ccc c = ccc c == 0

-- a non-starter: its combining class is not 0
abbrev pub is_non_starter : VersionData → ℕ → Bool
is_non_starter v m = not (is_starter (class_of v) m)
