use Rattle.std.proofs.Common.{◌≡◌, ℕ, ◌<◌, slice_index_or}
use Rattle.np_versions.specs.inside.Pages.{property_place}
use Rattle.np_tables.proofs.quick_checks.is_ascii_yes.Given as goal

abbrev pub invariant-loop-code : goal.invariant-loop-code
invariant-loop-code l = (c : ℕ) → c < l.code → slice_index_or l.quick_checks (property_place l.blocks c) 0 ≡ 0xFFFFFFFF
