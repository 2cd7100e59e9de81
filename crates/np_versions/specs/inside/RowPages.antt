-- The rows of all code points, in blocks of 256.
use Rattle.std.specs.Prelude.{◌≡◌, ℕ, ◌+◌, ◌*◌, ◌-◌, ◌<◌, ◌≤◌, List, length, slice_get, slice_index, None, Some}
use Rattle.np_ucd.specs.Entries.{Entry, AreRows}
use Rattle.np_versions.specs.Versions.{entry_at}
use Rattle.np_versions.specs.inside.Pages.{AreWithin, property_place}

-- a row's number is 1 plus its place; 0 is that of the code points which no row has
pub record IsRowNumber (es : List Entry) (c number : ℕ) : Type 0 where
  pub none : number ≡ 0 → entry_at es c ≡ None
  pub within : 0 < number → number - 1 < length es
  pub row : 0 < number → slice_get es (number - 1) ≡ entry_at es c

-- a block has the row numbers of the 256 code points from `first` on
abbrev pub IsRowBlock : List Entry → List ℕ → ℕ → ℕ → Type 0
IsRowBlock es numbers block first = (low : ℕ) → low < 256 → IsRowNumber es (first + low) (slice_index numbers (block * 256 + low))

-- the row number of each code point
pub record AreRowPages (es : List Entry) (blocks numbers : List ℕ) : Type 0 where
  pub within : AreWithin 4352 blocks (length numbers)
  pub each : (c : ℕ) → c < 0x110000 → IsRowNumber es c (slice_index numbers (property_place blocks c))

-- rows, and the row number of each code point
pub record ArePagedRows (es : List Entry) (blocks numbers : List ℕ) : Type 0 where
  pub rows : AreRows es
  pub pages : AreRowPages es blocks numbers

-- the rows before this place end before the code point, and the one there doesn't
pub record IsNextRow (es : List Entry) (at c : ℕ) : Type 0 where
  pub past : (k : ℕ) (e : Entry) → k < at → slice_get es k ≡ Some e → e.last < c
  pub here : (e : Entry) → slice_get es at ≡ Some e → c ≤ e.last

-- how many blocks there are: one without rows, and at most one for each block number
pub record AreCounted (blocks numbers : List ℕ) : Type 0 where
  pub count : ℕ
  pub some : 1 ≤ count
  pub fits : count ≤ length blocks + 1
  pub length : length numbers ≡ count * 256

-- pages so far: those of the first code points, 256 for each block number
pub record AreFirstPages (es : List Entry) (blocks numbers : List ℕ) : Type 0 where
  pub counted : AreCounted blocks numbers
  pub none : (low : ℕ) → low < 256 → slice_index numbers low ≡ 0
  pub within : (k : ℕ) → k < length blocks → slice_index blocks k * 256 + 256 ≤ length numbers
  pub each : (k : ℕ) → k < length blocks → IsRowBlock es numbers (slice_index blocks k) (k * 256)

-- the pages so far, and the next row for the code points that follow
pub record AreBegun (es : List Entry) (blocks numbers : List ℕ) (at : ℕ) : Type 0 where
  pub pages : AreFirstPages es blocks numbers
  pub next : IsNextRow es at (length blocks * 256)

-- behind the old numbers stand those of the `count` code points from `first` on
pub record ArePushed (es : List Entry) (first count : ℕ) (old new : List ℕ) (at : ℕ) : Type 0 where
  pub next : IsNextRow es at (first + count)
  pub size : length new ≡ length old + count
  pub kept : (k : ℕ) → k < length old → slice_index new k ≡ slice_index old k
  pub each : (low : ℕ) → low < count → IsRowNumber es (first + low) (slice_index new (length old + low))

-- no row has one of the 256 code points from `first` on
pub record HasNoRow (es : List Entry) (at first : ℕ) : Type 0 where
  pub next : IsNextRow es at (first + 256)
  pub none : (low : ℕ) → low < 256 → entry_at es (first + low) ≡ None

-- one row has the 256 code points from `first` on and the 256 before them
pub record GoesOn (es : List Entry) (at first : ℕ) : Type 0 where
  pub next : IsNextRow es at (first + 256)
  pub before : 256 ≤ first
  pub same : (low : ℕ) → low < 256 → entry_at es (first + low) ≡ entry_at es (first - 256 + low)
