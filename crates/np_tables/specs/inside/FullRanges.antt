-- Ranges of a flat list.
use Rattle.std.specs.Prelude.{◌≡◌, ℕ, ◌≤◌, List, ◌++◌, length}
use Rattle.std.specs.List.{All, slice_range}
use Rattle.np_tables.specs.declared.fulls.CodeRange.{CodeRange}

-- the elements of a range
abbrev pub code_range_of : List ℕ → CodeRange → List ℕ
code_range_of codes p = slice_range codes p.start p.end

-- a range lies within a list of this length
abbrev pub IsCodeRange : ℕ → CodeRange → Type 0
IsCodeRange n p = (p.start ≤ p.end) × (p.end ≤ n)

abbrev pub AreCodeRanges : List ℕ → List CodeRange → Type 0
AreCodeRanges codes parts = All (IsCodeRange (length codes)) parts

-- the later list begins with the earlier one
abbrev pub IsGrown : List ℕ → List ℕ → Type 0
IsGrown old new = (more : List ℕ) × (new ≡ old ++ more)
