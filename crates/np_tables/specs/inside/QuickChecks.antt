-- What a scan asks of a code point under each form, in one byte: whether, and behind which classes, it passes the quick check.
use Rattle.std.specs.Prelude.{ℕ, Bool, ◌+◌, ◌*◌, ◌/◌, ◌%◌, ◌^◌, ◌==◌, ◌&&◌, ◌||◌, not, nat_lt, map, List, if◌then◌else◌}
use Rattle.np_code_points.specs.declared.forms.Form.{Form}
use Rattle.np_code_points.specs.declared.forms.Form.TheVariants.{Nfd, Nfc, Nfkd, Nfkc}
use Rattle.np_code_points.specs.Forms.{composes}
use Rattle.np_tables.specs.declared.page_properties.Properties.{Properties}
use Rattle.np_tables.specs.inside.PageHints.{has_bit, yes_place}

-- of what is assigned: 255 of a starter that passes; from 1 to 254 the class of a non-starter without a mapping that, where the form
-- composes, is no second part; 0 of what is not known to pass
unfoldable pub assigned_quick_check : Form → Properties → ℕ
assigned_quick_check form w =
    if has_bit w.hints (yes_place form)
    then 255
    else (if nat_lt w.class 255 && (w.fulls == 0 && (w.never_second || not (composes form))) then w.class else 0)

-- by its properties: what is not assigned passes too, but below all else
unfoldable pub quick_check_of : Form → Properties → ℕ
quick_check_of form w = if w.assigned then assigned_quick_check form w else (if has_bit w.hints (yes_place form) then 1 else 0)

-- under each form
unfoldable pub quick_checks_of : Properties → ℕ
quick_checks_of w = quick_check_of Nfd w + 0x100 * quick_check_of Nfc w + 0x10000 * quick_check_of Nfkd w + 0x1000000 * quick_check_of Nfkc w

abbrev pub all_quick_checks : List Properties → List ℕ
all_quick_checks all_properties = map quick_checks_of all_properties

-- how many bits are before a form's own eight
abbrev pub quick_check_place : Form → ℕ
quick_check_place Nfd = 0
quick_check_place Nfc = 8
quick_check_place Nfkd = 16
quick_check_place Nfkc = 24

abbrev pub quick_check_in : Form → ℕ → ℕ
quick_check_in form quick_checks = quick_checks / 2 ^ quick_check_place form % 256

-- the least quick check that may pass at all: above 1 that is of an assigned code point
abbrev pub least_quick_check : Bool → ℕ
least_quick_check assigned = if assigned then 2 else 1

-- the least quick check that may follow a code point of this one
abbrev pub low_behind : ℕ → ℕ → ℕ
low_behind least quick_check = if quick_check == 255 then least else quick_check
