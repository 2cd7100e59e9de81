-- How deep mappings go and how long full decompositions are, round by round: in round n the depths up to n are known.
use Rattle.std.specs.Prelude.{ℕ, zero, suc, ◌+◌, ◌-◌, ◌%◌, Bool, true, nat_le, ◌==◌, min, List, [], ◌∷◌, map, flat_map, length, Option, Some, None, if◌then◌else◌}
use Rattle.std.specs.List.{list_all}
use Rattle.np_ucd.specs.Entries.{Entry}
use Rattle.np_versions.specs.Versions.{VersionData}
use Rattle.np_versions.specs.Mappings.{has_depth}
use Rattle.np_versions.specs.inside.FullDecompositions.{full}

-- 0 where some depth is over the round, else the length, with 65 for every length over 64
abbrev pub marked : Bool → ℕ → ℕ
marked known n = if known then min n 65 else 0

-- the mark of a code point in round n: that of its full compatibility decomposition
unfoldable pub mark : VersionData → ℕ → ℕ → ℕ
mark v n c = marked (has_depth v n c) (length (full v true n c))

-- the mark of a list of code points: that of their full compatibility decompositions together
unfoldable pub parts_mark : VersionData → ℕ → List ℕ → ℕ
parts_mark v n xs = marked (list_all (has_depth v n) xs) (length (flat_map (full v true n) xs))

-- the mark in round n of a code point that has this mapping
unfoldable pub mapping_mark : VersionData → ℕ → List ℕ → ℕ
mapping_mark v n [] = 1
mapping_mark v zero (x ∷ xs) = 0
mapping_mark v (suc n) (x ∷ xs) = parts_mark v n (x ∷ xs)

-- the marks of the mappings of the rows
unfoldable pub row_marks : VersionData → ℕ → List ℕ
row_marks v n = map (λ e. mapping_mark v n e.mapping) v.entries

-- the depth of a syllable of the arithmetic: <LV, T> is one deeper than <L, V>
unfoldable pub syllable_depth : ℕ → ℕ
syllable_depth c = if (c - 0xAC00) % 28 == 0 then 1 else 2

-- a syllable of depth d has d + 1 parts
unfoldable pub syllable_mark : ℕ → ℕ → ℕ
syllable_mark n c = if nat_le (syllable_depth c) n then syllable_depth c + 1 else 0

-- the first code point of the first row that passes
unfoldable pub first_row : (Entry → Bool) → List Entry → Option ℕ
first_row p [] = None
first_row p (e ∷ es) = if p e then Some e.first else first_row p es

-- whether a row has this mark in round n
abbrev pub is_marked : VersionData → ℕ → ℕ → Entry → Bool
is_marked v n m e = mapping_mark v n e.mapping == m
