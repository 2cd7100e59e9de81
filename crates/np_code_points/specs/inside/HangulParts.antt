-- The parts of the Hangul arithmetic by name (The Unicode Standard, section 3.12).
use Rattle.std.specs.Prelude.{ℕ, ◌-◌, ◌%◌, Bool, ◌&&◌, ◌==◌}
use Rattle.np_code_points.specs.Hangul.{is_among, is_syllable}

-- LBase 1100, LCount 19
abbrev pub is_leading_consonant : ℕ → Bool
is_leading_consonant = is_among 0x1100 19

-- VBase 1161, VCount 21
abbrev pub is_vowel : ℕ → Bool
is_vowel = is_among 0x1161 21

-- TBase 11A7 is none itself, TCount 28
abbrev pub is_trailing_consonant : ℕ → Bool
is_trailing_consonant = is_among 0x11A8 27

-- a syllable with no trailing consonant
abbrev pub is_lv_syllable : ℕ → Bool
is_lv_syllable s = is_syllable s && (s - 0xAC00) % 28 == 0
