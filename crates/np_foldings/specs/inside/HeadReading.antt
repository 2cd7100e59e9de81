-- How a record is held against the one before, as tests; `specs/Tests` says it in relations.
use Rattle.std.specs.Prelude.{ℕ, Bool, false, not, ◌&&◌, ◌||◌, ◌==◌, nat_le, nat_lt, Option, Some, None}
use Rattle.np_foldings.specs.declared.heads.Head.{Head}
use Rattle.np_foldings.specs.Statuses.{Status, Common, Full, Simple, Turkic, place_of}

abbrev pub is_behind : Option Head → ℕ → Status → Bool
is_behind None code status = false
is_behind (Some before) code status = before.code == code && place_of before.status == place_of status

abbrev pub is_out_of_order : Option Head → Head → Bool
is_out_of_order None head = false
is_out_of_order (Some before) head =
    nat_lt head.code before.code || (head.code == before.code && nat_le (place_of head.status) (place_of before.status))

abbrev pub conflicts_as : Status → Option Head → ℕ → Bool
conflicts_as Common before code = false
conflicts_as Full before code = is_behind before code Common
conflicts_as Simple before code = not (is_behind before code Full)
conflicts_as Turkic before code = false

abbrev pub conflicts : Option Head → Head → Bool
conflicts before head = conflicts_as head.status before head.code
