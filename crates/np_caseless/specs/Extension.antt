-- One version with its folding extends another with its own.
use Rattle.std.specs.Prelude.{◌≡◌, ℕ, true, List}
use Rattle.np_chain.specs.Extension.{Extends}
use Rattle.np_code_points.specs.declared.forms.Form.{Form}
use Rattle.np_forms.specs.Assigned.{IsAssigned}
use Rattle.np_versions.specs.Versions.{is_assigned}
use Rattle.np_caseless.specs.Caseless.{IsCaseless}
use Rattle.np_caseless.specs.Folded.{FoldedVersion, folding_at}

-- the later version extends the earlier one, and what the earlier one assigns folds as it did
pub record ExtendsFolded (a b : FoldedVersion) : Type 0 where
  pub extends : Extends a.version b.version
  pub folds : (c : ℕ) → is_assigned a.version c ≡ true → folding_at b.foldings c ≡ folding_at a.foldings c

-- each string that a assigns has its caseless list under b too
abbrev pub KeepsKeys : FoldedVersion → FoldedVersion → Type 0
KeepsKeys a b = (form : Form) (xs ks : List ℕ) → IsAssigned a.version xs → IsCaseless a form xs ks → IsCaseless b form xs ks

-- each caseless list under b of a string that b assigns is its own under a, whether or not a assigns its code points
abbrev pub LeavesKeys : FoldedVersion → FoldedVersion → Type 0
LeavesKeys a b = (form : Form) (xs ks : List ℕ) → IsAssigned b.version xs → IsCaseless b form xs ks → IsCaseless a form ks ks
