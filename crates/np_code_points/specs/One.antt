-- Exactly one.
use Rattle.std.specs.Prelude.{◌≡◌}

-- this is so of one value, and of no other
abbrev pub HasOne : {X : Type 0} → (X → Type 0) → Type 0
HasOne {X} P = (x : X) × P x × ((y : X) → P y → y ≡ x)
