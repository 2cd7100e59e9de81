-- The rows of UnicodeData.txt (UAX #44), as contracts see them.
use Rattle.std.specs.Prelude.{◌≡◌, ◌≢◌, ℕ, ◌<◌, ◌≤◌, true, List, [], ◌∷◌, length}
use lib.Utf8.{scalar}
use Rattle.std.specs.List.{list_all}
pub use Rattle.np_ucd.specs.declared.rows.MapKind.{MapKind}
pub use Rattle.np_ucd.specs.declared.rows.MapKind.TheVariants.{Plain, Canonical, Compatibility}

-- one row: the code points from first to last, both included
pub record Entry : Type 0 where
  pub first : ℕ
  pub last : ℕ
  pub class : ℕ
  pub kind : MapKind
  pub mapping : List ℕ

-- how many code points a mapping of this kind may have
abbrev pub HasLength : MapKind → ℕ → Type 0
HasLength Plain n = n ≡ 0
HasLength Canonical n = (1 ≤ n) × (n ≤ 2)
HasLength Compatibility n = (1 ≤ n) × (n ≤ 32)

-- what holds of each row
pub record IsRow (e : Entry) : Type 0 where
  pub rises : e.first ≤ e.last
  pub bounded : e.last < 0x110000
  -- 255 is no combining class
  pub class : e.class ≤ 254
  pub fits : HasLength e.kind (length e.mapping)
  -- a mapping holds no surrogate
  pub scalars : list_all scalar e.mapping ≡ true
  -- a code point with a mapping stands alone, and is no surrogate
  pub alone : e.mapping ≢ [] → e.first ≡ e.last
  pub mapped_scalar : e.mapping ≢ [] → scalar e.first ≡ true

-- all code points of e are below those of the next row
abbrev pub IsBefore : Entry → List Entry → Type 0
IsBefore e [] = Unit {0}
IsBefore e (f ∷ fs) = e.last < f.first

-- each row is one, and lies before the next one
abbrev pub AreRows : List Entry → Type 0
AreRows [] = Unit {0}
AreRows (e ∷ es) = IsRow e × IsBefore e es × AreRows es
