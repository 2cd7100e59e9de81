-- Texts of ASCII, which many names are.
use Rattle.std.specs.Prelude.{◌≡◌, ◌⊎◌, ℕ, List, IsAscii}
use Rattle.np_code_points.specs.Forms.{byte_of}
use Rattle.np_code_points.specs.declared.forms.Form.{Form}
use Rattle.np_versions.specs.Versions.{VersionData}
use Rattle.np_c.specs.Statuses.{alone}
use Rattle.np_c.specs.Texts.{IsFormLetter, IsKeyOf}
use Rattle.np_c.specs.declared.answers.Answer.{Answer}

-- each text of ASCII is its own key under the form
abbrev pub KeepsAscii : VersionData → Form → Type 0
KeepsAscii v form = (text : List ℕ) → IsAscii text → IsKeyOf v form text text

-- `npss_keeps_ascii`: the letter is that of a form under which each text of ASCII is its own key; or that isn't known
abbrev pub IsAsciiAnswer : VersionData → ℕ → Answer → Type 0
IsAsciiAnswer v letter a =
    ((a ≡ alone 6) × (¬ (IsFormLetter letter)))
    ⊎ ((form : Form) × (letter ≡ byte_of form) × (((a ≡ alone 0) × KeepsAscii v form) ⊎ (a ≡ alone 11)))
