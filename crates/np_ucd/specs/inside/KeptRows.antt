-- A row as it is kept: its mapping is a range of a flat list of code points.
use Rattle.std.specs.Prelude.{ℕ, ◌+◌, ◌≤◌, List, length}
use Rattle.std.specs.List.{All, slice_range}
use Rattle.np_ucd.specs.declared.kept_rows.KeptRow.{KeptRow}
use Rattle.np_ucd.specs.Entries.{Entry}

abbrev pub kept_entry : List ℕ → KeptRow → Entry
kept_entry codes r =
    record { first = r.first; last = r.last; class = r.class; kind = r.kind; mapping = slice_range codes r.start (r.start + r.count) }

-- the mapping lies within a list of this length
abbrev pub IsKept : ℕ → KeptRow → Type 0
IsKept n r = r.start + r.count ≤ n

abbrev pub AreKept : List ℕ → List KeptRow → Type 0
AreKept codes rows = All (IsKept (length codes)) rows
