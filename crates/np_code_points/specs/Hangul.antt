-- Hangul syllables (The Unicode Standard, section 3.12): LV maps to <L, V>, LVT to <LV, T>.
use Rattle.std.specs.Prelude.{ℕ, ◌+◌, ◌-◌, ◌/◌, ◌%◌, Bool, ◌&&◌, ◌==◌, nat_le, nat_lt, List, [], ◌∷◌, if◌then◌else◌}

-- the `count` code points from `base` on
abbrev pub is_among : ℕ → ℕ → ℕ → Bool
is_among base count c = nat_le base c && nat_lt c (base + count)

-- SBase AC00, SCount 11172
abbrev pub is_syllable : ℕ → Bool
is_syllable = is_among 0xAC00 11172

-- the pair that a syllable maps to: LBase 1100, VBase 1161, TBase 11A7, TCount 28, NCount 588
unfoldable pub syllable_pair : ℕ → List ℕ
syllable_pair s =
    let index = s - 0xAC00 in
    if index % 28 == 0 then (0x1100 + index / 588) ∷ (0x1161 + index % 588 / 28) ∷ []
    else (s - index % 28) ∷ (0x11A7 + index % 28) ∷ []
