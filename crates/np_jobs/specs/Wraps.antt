-- A fault that tells another one.
use Rattle.std.specs.Prelude.{◌≡◌}

-- the value is made of another one so, and that one has the property
abbrev pub Wraps : {A B : Type 0} → (A → B) → (A → Type 0) → B → Type 0
Wraps {A} wrap P b = (a : A) × (b ≡ wrap a) × P a
