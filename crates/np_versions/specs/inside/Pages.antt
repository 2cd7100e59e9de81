-- Tables in two levels: for each 256 code points the number of a block, and behind one another the blocks, of 256 properties each.
use Rattle.std.specs.Prelude.{◌≡◌, ℕ, ◌+◌, ◌*◌, ◌/◌, ◌%◌, ◌<◌, ◌≤◌, List, length, slice_index}

-- where the properties of a code point are
unfoldable pub property_place : List ℕ → ℕ → ℕ
property_place blocks c = slice_index blocks (c / 256) * 256 + c % 256

-- so many block numbers, whose blocks all lie within the properties
pub record AreWithin (count : ℕ) (blocks : List ℕ) (all_properties : ℕ) : Type 0 where
  pub size : length blocks ≡ count
  pub each : (k : ℕ) → k < count → slice_index blocks k * 256 + 256 ≤ all_properties
