-- What a table of pages knows of the leading consonants of Hangul syllables.
use Rattle.std.specs.Prelude.{◌≡◌, ℕ, ◌+◌, ◌<◌, true, List, slice_index_or}
use Rattle.np_code_points.specs.declared.forms.Form.{Form}
use Rattle.np_tables.specs.declared.page_properties.Properties.{Properties}
use Rattle.np_tables.specs.inside.PageHints.{boundary_place, has_bit}
use Rattle.np_tables.specs.inside.PageProperties.{no_properties}
use Rattle.np_versions.specs.inside.Pages.{property_place}

-- by the bits of their properties each of them is a boundary of every form
abbrev pub AreLeadingBoundaries : List ℕ → List Properties → Type 0
AreLeadingBoundaries blocks all_properties =
    (i : ℕ) → i < 19 → (form : Form) → has_bit (slice_index_or all_properties (property_place blocks (0x1100 + i)) no_properties).hints (boundary_place form) ≡ true
