use Rattle.std.proofs.Common.{◌≡◌, ℕ, ◌+◌, ◌<◌, true, slice_index_or}
use Rattle.np_tables.proofs.Words.{Form, has_bit, boundary_place, no_properties, property_place}
use Rattle.np_tables.proofs.leading_consonants.are_leading_boundaries.Given as goal

abbrev pub invariant-loop-leading : goal.invariant-loop-leading
invariant-loop-leading l = (i : ℕ) → i < l.leading → (form : Form) → has_bit (slice_index_or l.all_properties (property_place l.blocks (0x1100 + i)) no_properties).hints (boundary_place form) ≡ true
