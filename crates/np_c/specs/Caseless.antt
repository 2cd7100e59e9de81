-- Caseless keys and caseless matches, as C asks for them.
use Rattle.std.specs.Prelude.{◌≡◌, ◌⊎◌, ℕ, Bool, List, chars, encode_utf8_all, IsUtf8}
use Rattle.np_caseless.specs.Caseless.{IsCaseless, MatchCaselessly}
use Rattle.np_caseless.specs.Folded.{FoldedVersion}
use Rattle.np_code_points.specs.Forms.{byte_of}
use Rattle.np_code_points.specs.declared.forms.Form.{Form}
use Rattle.np_forms.specs.Assigned.{IsAssigned}
use Rattle.np_c.specs.Answers.{IsMade, LacksForm, Tells}
use Rattle.np_c.specs.Statuses.{alone}
use Rattle.np_c.specs.Texts.{IsNoKey, IsNoText}
use Rattle.np_c.specs.declared.answers.Answer.{Answer}

-- the bytes are a text whose code points are assigned, and `made` are those of its caseless list (The Unicode Standard, D145 and D146)
pub record IsCaselessKeyOf (v : FoldedVersion) (form : Form) (bytes made : List ℕ) : Type 0 where
  pub valid : IsUtf8 bytes
  pub assigned : IsAssigned v.version (chars bytes)
  pub codes : List ℕ
  pub is : IsCaseless v form (chars bytes) codes
  pub bytes_are : made ≡ encode_utf8_all codes

-- `npss_caseless_key`: the letter is that of a form, and the caseless key under it is put into the room; or there is none, as there is no key
abbrev pub IsCaselessKeyAnswer : FoldedVersion → ℕ → List ℕ → List ℕ → List ℕ → Answer → Type 0
IsCaselessKeyAnswer v letter bytes before after a =
    LacksForm letter before after a
    ⊎ ((form : Form) × (letter ≡ byte_of form) × IsMade (IsCaselessKeyOf v form bytes) (IsNoKey v.version bytes) before after a)

-- whether two texts match caselessly, canonically or where `compat` compatibly; or memory ran out
pub record AreMatchAnswer (v : FoldedVersion) (compat : Bool) (left right : List ℕ) (a : Answer) : Type 0 where
  pub valid_left : IsUtf8 left
  pub valid_right : IsUtf8 right
  pub told : Tells (MatchCaselessly v compat (chars left) (chars right)) a ⊎ (a ≡ alone 4)

-- `npss_caseless_match`
abbrev pub IsMatchAnswer : FoldedVersion → Bool → List ℕ → List ℕ → Answer → Type 0
IsMatchAnswer v compat left right a =
    IsNoText 1 left a ⊎ ((IsUtf8 left × IsNoText 2 right a) ⊎ AreMatchAnswer v compat left right a)
