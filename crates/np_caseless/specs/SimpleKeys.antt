-- Caseless keys that are told with what lines ask of them.
use Rattle.std.specs.Prelude.{◌≡◌, ℕ, ◌<◌, List, ◌++◌, chars, drop, length, take, IsUtf8}
use Rattle.np_code_points.specs.Lines.{HasNo}
use Rattle.np_code_points.specs.declared.forms.Form.{Form}
use Rattle.np_forms.specs.Assigned.{IsAssigned}
use Rattle.np_caseless.specs.Caseless.{IsCaseless}
use Rattle.np_caseless.specs.Folded.{FoldedVersion}

-- each control of ASCII (below 32) that one list of bytes lacks another lacks too
abbrev pub AddsNoControl : List ℕ → List ℕ → Type 0
AddsNoControl before after = (b : ℕ) → b < 32 → HasNo b before → HasNo b after

-- a text of assigned code points, and its caseless key, in which no line ends that doesn't end in the text
pub record IsSimpleKey (v : FoldedVersion) (form : Form) (text key : List ℕ) : Type 0 where
  pub utf8 : IsUtf8 key
  pub caseless : IsCaseless v form (chars text) (chars key)
  pub assigned : IsAssigned v.version (chars text)
  pub ends : AddsNoControl text key

-- wherever a part of a text begins and ends, what stands at its place in other bytes is its caseless key, and it is assigned
abbrev pub IsEachPartKey : FoldedVersion → Form → List ℕ → List ℕ → Type 0
IsEachPartKey v form text keys =
    (before part after : List ℕ) → text ≡ before ++ (part ++ after) → IsUtf8 before → IsUtf8 part
    → IsSimpleKey v form part (take (length part) (drop (length before) keys))
