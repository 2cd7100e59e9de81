-- What is asked of lines, or why nothing is.
use Rattle.std.specs.Prelude.{◌≡◌, ◌⊎◌}
use Rattle.np_code_points.specs.Forms.{byte_of}
use Rattle.np_code_points.specs.declared.forms.Form.{Form}
use Rattle.np_lines.specs.Lines as line
use Rattle.np_lines.specs.declared.lines.Wanted.{Wanted}
use Rattle.np_c.specs.Lines.{IsLineByte}
use Rattle.np_c.specs.Statuses.{alone}
use Rattle.np_c.specs.Texts.{IsFormLetter}
use Rattle.np_c.specs.declared.answers.Answer.{Answer}
use Rattle.np_c.specs.declared.lines.Asked.{Asked}

-- by the letter of the form and the byte that ends lines
pub record IsWanted (asked : Asked) (wanted : Wanted) : Type 0 where
  pub form : asked.form ≡ byte_of wanted.form
  pub end : asked.end ≡ line.byte_of wanted.end

-- the letter is none, or the byte is
abbrev pub IsNoQuestion : Asked → Answer → Type 0
IsNoQuestion asked a =
    ((a ≡ alone 6) × (¬ (IsFormLetter asked.form)))
    ⊎ ((form : Form) × (asked.form ≡ byte_of form) × (a ≡ alone 12) × (¬ (IsLineByte asked.end)))
