-- The rows of the Hangul syllables and jamo.
use Rattle.std.specs.Prelude.{◌≡◌, ℕ, ◌+◌, ◌-◌, Bool, true, false, ◌&&◌, ◌==◌, nat_lt, List, Option, Some, None, if◌then◌else◌}
use Rattle.np_ucd.specs.Entries.{Entry}
use Rattle.np_versions.specs.Versions.{VersionData, entry_at, is_assigned, is_empty, is_hangul}

-- a row as the arithmetic wants it: of class 0, with no mapping
abbrev pub is_right_entry : Option Entry → Bool
is_right_entry None = false
is_right_entry (Some e) = e.class == 0 && is_empty e.mapping

unfoldable pub is_right_at : List Entry → ℕ → Bool
is_right_at es c = is_right_entry (entry_at es c)

-- some syllable or jamo is assigned
pub record HasAssignedHangul (v : VersionData) : Type 0 where
  pub some : ℕ
  pub some_hangul : is_hangul some ≡ true
  pub some_assigned : is_assigned v some ≡ true

-- the syllables and jamo by code point, counted from 0
unfoldable pub hangul_at : ℕ → ℕ
hangul_at i =
    if nat_lt i 19 then 0x1100 + i
    else if nat_lt i 40 then 0x1161 + (i - 19)
    else if nat_lt i 67 then 0x11A8 + (i - 40)
    else 0xAC00 + (i - 67)
