-- What `same` answers.
use Rattle.std.specs.Prelude.{◌↔◌, ℕ, List, chars, Bool, Option, Some, None, IsTrue}
use Rattle.np_code_points.specs.Forms.{is_compat}
use Rattle.np_forms.specs.Forms.{IsEquivalent}
use Rattle.np_node.specs.Nodes.{State, IsKept}

-- nothing where one of the strings isn't kept, else whether they are equivalent under the node's version
abbrev pub AnswersSame : State → List ℕ → List ℕ → Option Bool → Type 0
AnswersSame node left right None = ¬ (IsKept node.entries left × IsKept node.entries right)
AnswersSame node left right (Some equal) =
    IsKept node.entries left × IsKept node.entries right
    × (IsTrue equal ↔ IsEquivalent node.version (is_compat node.form) (chars left) (chars right))
