-- The four normalization forms (UAX #15, table 1).
use Rattle.std.specs.Prelude.{ℕ, Bool, true, false, List, Option, Some, None, codes, if◌then◌else◌}
use Rattle.std.specs.Str.{bytes_eq}
pub use Rattle.np_code_points.specs.declared.forms.Form.{Form}
pub use Rattle.np_code_points.specs.declared.forms.Form.TheVariants.{Nfd, Nfc, Nfkd, Nfkc}

-- whether compatibility mappings count too
abbrev pub is_compat : Form → Bool
is_compat Nfd = false
is_compat Nfc = false
is_compat Nfkd = true
is_compat Nfkc = true

-- whether composition follows
abbrev pub composes : Form → Bool
composes Nfd = false
composes Nfc = true
composes Nfkd = false
composes Nfkc = true

-- the form of a name
abbrev pub form_named : List ℕ → Option Form
form_named name =
    if bytes_eq name (codes "nfd") then Some Nfd
    else (if bytes_eq name (codes "nfc") then Some Nfc
    else (if bytes_eq name (codes "nfkd") then Some Nfkd
    else (if bytes_eq name (codes "nfkc") then Some Nfkc else None)))

-- the letters D, C, d and c
abbrev pub byte_of : Form → ℕ
byte_of Nfd = 68
byte_of Nfc = 67
byte_of Nfkd = 100
byte_of Nfkc = 99
