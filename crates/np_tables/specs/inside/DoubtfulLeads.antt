-- Lead bytes told apart by whether each character that one begins passes the quick check, whatever stands before it (The Unicode Standard, table 3-6).
use Rattle.std.specs.Prelude.{◌≡◌, ℕ, ◌/◌, ◌%◌, ◌<◌, ◌≤◌, ◌==◌, Bool, not, false, List, [], ◌∷◌, length, bit_and, encode_utf8, slice_index, slice_index_or}
use Rattle.np_code_points.specs.declared.forms.Form.{Form}
use Rattle.np_code_points.specs.declared.forms.Form.TheVariants.{Nfd, Nfc, Nfkd, Nfkc}
use Rattle.np_tables.specs.declared.doubtful_leads.DoubtfulLeads.{DoubtfulLeads}
use Rattle.np_tables.specs.inside.QuickChecks.{quick_check_in}
use Rattle.np_versions.specs.inside.Pages.{property_place}

-- the first byte of a code point's encoding
abbrev pub lead_byte : ℕ → ℕ
lead_byte c = slice_index (encode_utf8 c) 0

-- of each upper half of a byte that begins a character of several bytes a bit
abbrev pub high_bits : List ℕ
high_bits = 0 ∷ 0 ∷ 0 ∷ 0 ∷ 0 ∷ 0 ∷ 0 ∷ 0 ∷ 0 ∷ 0 ∷ 0 ∷ 0 ∷ 1 ∷ 2 ∷ 4 ∷ 8 ∷ []

-- by its lower half a row has the bit of its upper half
abbrev pub is_doubtful : List ℕ → ℕ → Bool
is_doubtful row byte = not (bit_and (slice_index row (byte % 16)) (slice_index high_bits (byte / 16)) == 0)

-- by its quick check a code point is a starter that passes, whatever stands before it
abbrev pub IsYes : Form → List ℕ → List ℕ → ℕ → Type 0
IsYes form blocks quick_checks c = quick_check_in form (slice_index_or quick_checks (property_place blocks c) 0) ≡ 255

-- so is each that begins with a byte of which the row has no bit
abbrev pub AreSafe : Form → List ℕ → List ℕ → List ℕ → Type 0
AreSafe form blocks quick_checks row = (c : ℕ) → c < 0x110000 → 128 ≤ c → is_doubtful row (lead_byte c) ≡ false → IsYes form blocks quick_checks c

-- the same of the bytes with one lower half, of which these are the bits
abbrev pub AreHalfSafe : Form → List ℕ → List ℕ → ℕ → ℕ → Type 0
AreHalfSafe form blocks quick_checks low bits =
    (c : ℕ) → c < 0x110000 → 128 ≤ c → lead_byte c % 16 ≡ low → bit_and bits (slice_index high_bits (lead_byte c / 16)) ≡ 0 → IsYes form blocks quick_checks c

-- the row of a form
abbrev pub row_of : Form → DoubtfulLeads → List ℕ
row_of Nfd leads = leads.nfd
row_of Nfc leads = leads.nfc
row_of Nfkd leads = leads.nfkd
row_of Nfkc leads = leads.nfkc

-- what is 255 in `common` under a form is so in each of the quick checks
abbrev pub HaveInCommon : List ℕ → ℕ → Type 0
HaveInCommon quick_checks common = (form : Form) → quick_check_in form common ≡ 255 → (k : ℕ) → k < length quick_checks → quick_check_in form (slice_index quick_checks k) ≡ 255

-- the same of the code points from one up to another
abbrev pub HaveYesInCommon : List ℕ → List ℕ → ℕ → ℕ → ℕ → Type 0
HaveYesInCommon blocks quick_checks from to common = (form : Form) → quick_check_in form common ≡ 255 → (c : ℕ) → from ≤ c → c < to → IsYes form blocks quick_checks c
