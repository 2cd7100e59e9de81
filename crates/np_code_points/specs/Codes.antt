-- Code points in hex digits, as UnicodeData.txt has them (UAX #44).
use Rattle.std.specs.Prelude.{◌≡◌, ℕ, ◌+◌, ◌-◌, Bool, true, ◌&&◌, nat_le, nat_lt, List, ◌++◌, map, length, replicate, codes, Option, Some, None, if◌then◌else◌}
use Rattle.std.specs.Char.{digit_value}
use Rattle.std.specs.Fmt.{decimal}
use Rattle.std.specs.Int.Digits.{digits_of}
use Rattle.std.specs.List.{list_all}
use Rattle.std.specs.Str.Parse.{digits_value}
use lib.Utf8.{scalar}

-- a hex digit of either case
abbrev pub is_hex_digit : ℕ → Bool
is_hex_digit b = nat_lt (digit_value b) 16

-- four to six hex digits, whose number is at most 10FFFF
abbrev pub is_code : List ℕ → Bool
is_code bytes =
    (nat_le 4 (length bytes) && nat_le (length bytes) 6)
    && (list_all is_hex_digit bytes && nat_le (digits_value 16 bytes) 0x10FFFF)

-- the number that a code stands for
unfoldable pub code_value : List ℕ → Option ℕ
code_value bytes = if is_code bytes then Some (digits_value 16 bytes) else None

-- a word that is a code point, and no surrogate
abbrev pub IsScalarOf : List ℕ → ℕ → Type 0
IsScalarOf word code = (code_value word ≡ Some code) × (scalar code ≡ true)

-- the upper-case hex digit of a number below 16
abbrev pub hex_digit : ℕ → ℕ
hex_digit d = if nat_lt d 10 then 48 + d else 55 + d

-- zeros in front, up to four digits
abbrev pub padded : List ℕ → List ℕ
padded digits = replicate (4 - length digits) 48 ++ digits

-- the number in upper-case hex digits: at least four, with no zero in front where there are more
unfoldable pub code_digits : ℕ → List ℕ
code_digits c = padded (map hex_digit (digits_of 16 c))

-- that a code point of a text is not assigned, and its byte place there
abbrev pub unassigned : ℕ → ℕ → List ℕ
unassigned at code = codes "unassigned " ++ (code_digits code ++ (codes " at byte " ++ decimal at))
