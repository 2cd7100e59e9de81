-- How far a scan comes by the quick checks of code points.
use Rattle.std.specs.Prelude.{◌≡◌, ℕ, ◌+◌, ◌<◌, ◌≤◌, List, ◌++◌, drop, length, encode_utf8, slice_index, IsUtf8}
use Rattle.std.specs.Int.{bit_at}
use Rattle.np_versions.specs.Versions.{VersionData}
use Rattle.np_tables.specs.declared.scans.Scan.{Scan}
use Rattle.np_tables.specs.inside.DoubtfulLeads.{IsYes}
use Rattle.np_tables.specs.inside.PageProperties.{Follows, FollowsByQuickCheck, WalksOn}

-- by its quick check c may follow one of no more than `low`, and behind it no less than `next` may follow
abbrev pub PassesCode : Scan → ℕ → ℕ → ℕ → Type 0
PassesCode s low c next = (last : ℕ) → last ≤ low → (n : ℕ) × ((n ≤ next) × FollowsByQuickCheck s.least s.index.now s.quick_checks.now s.form last c n)

-- behind a quick check of `low` a scan goes on from a text to what is left of it, behind which no less than `next` may follow
pub record ScansOn (s : Scan) (text : List ℕ) (low : ℕ) (rest : List ℕ) (next : ℕ) : Type 0 where
  pub least : s.least ≤ next
  pub walks : (v : VersionData) → WalksOn (Follows v s.least s.index.now s.quick_checks.now s.form) text rest low next
  pub front : length rest ≤ length text
  pub utf8 : IsUtf8 rest

-- so it goes on from each text that is the character c and what is behind it
abbrev pub ScansPast : Scan → ℕ → ℕ → List ℕ → List ℕ → ℕ → Type 0
ScansPast s low c behind rest next = (text : List ℕ) → IsUtf8 text → text ≡ encode_utf8 c ++ behind → ScansOn s text low rest next

-- ---- by lead bytes

-- each character that begins from one place on up to another is a starter that passes, whatever stands before it
abbrev pub AreYes : Scan → List ℕ → ℕ → ℕ → Type 0
AreYes s text from to = (k : ℕ) → from ≤ k → k < to → (c : ℕ) (rest : List ℕ) → c < 0x110000 → drop k text ≡ encode_utf8 c ++ rest → IsYes s.form s.index.now s.quick_checks.now c

-- of the characters that begin in the 64 bytes behind `from` those have a bit that are still to be looked up, all of them behind `end`; the others there are starters that pass
pub record AreLeft (s : Scan) (text : List ℕ) (end from left : ℕ) : Type 0 where
  pub before : AreYes s text end from
  pub passed : (k : ℕ) → k < 64 → bit_at left k ≡ 0 → end ≤ from + k → AreYes s text (from + k) (from + k + 1)
  pub lead_byte : (k : ℕ) → k < 64 → bit_at left k ≡ 1 → 192 ≤ slice_index text (from + k)
  pub behind : (k : ℕ) → k < 64 → bit_at left k ≡ 1 → end ≤ from + k
