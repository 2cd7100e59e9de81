-- The laws of caseless keys, over the definitions alone.
use Rattle.std.specs.Prelude.{◌≡◌, ◌↔◌, ℕ, ◌*◌, ◌≤◌, false, List, length, chars, IsUtf8}
use Rattle.np_code_points.specs.Forms.{is_compat}
use Rattle.np_code_points.specs.One.{HasOne}
use Rattle.np_code_points.specs.declared.forms.Form.{Form}
use Rattle.np_forms.specs.Assigned.{IsAssigned}
use Rattle.np_forms.specs.Forms.{IsNormalForm, IsEquivalent}
use Rattle.np_versions.specs.Conditions.{IsSound}
use Rattle.np_versions.specs.Examples.{with_hangul, with_rows}
use Rattle.np_versions.specs.Versions.{is_assigned}
use Rattle.np_caseless.specs.Caseless.{IsCaseless, MatchCaselessly}
use Rattle.np_caseless.specs.Conditions.{IsSoundFolding}
use Rattle.np_caseless.specs.Examples.{letter_folds}
use Rattle.np_caseless.specs.Extension.{ExtendsFolded}
use Rattle.np_caseless.specs.Folded.{FoldedVersion, folded_by, is_quiet}

-- a string has exactly one caseless list
abbrev pub OneCaselessKey : Type 0
OneCaselessKey = (v : FoldedVersion) (form : Form) (xs : List ℕ) → IsSound v.version → HasOne (IsCaseless v form xs)

-- two strings have equal caseless lists exactly where they match caselessly
abbrev pub OneKeyIsOneMatch : Type 0
OneKeyIsOneMatch =
    (v : FoldedVersion) (form : Form) (xs ys ks ls : List ℕ) → IsSound v.version → IsCaseless v form xs ks → IsCaseless v form ys ls →
    (ks ≡ ls) ↔ MatchCaselessly v (is_compat form) xs ys

-- canonical equivalents have one caseless list
abbrev pub EquivalentsHaveOneKey : Type 0
EquivalentsHaveOneKey =
    (v : FoldedVersion) (form : Form) (xs ys ks ls : List ℕ) → IsSound v.version → IsEquivalent v.version false xs ys →
    IsCaseless v form xs ks → IsCaseless v form ys ls → ks ≡ ls

-- a caseless list is a normal form, and its own caseless list
abbrev pub OwnKey : Type 0
OwnKey =
    (v : FoldedVersion) (form : Form) (xs ks : List ℕ) → IsSoundFolding v → IsCaseless v form xs ks →
    IsNormalForm v.version form ks ks × IsCaseless v form ks ks

-- where b extends a, a string that is assigned in a has one caseless list under both, which is assigned in a
abbrev pub Stability : Type 0
Stability =
    (a b : FoldedVersion) (form : Form) (xs ks : List ℕ) → IsSoundFolding a → IsSoundFolding b → ExtendsFolded a b →
    IsAssigned a.version xs → IsCaseless a form xs ks → IsCaseless b form xs ks × IsAssigned a.version ks

-- extension is transitive
abbrev pub AlongChains : Type 0
AlongChains = (a b c : FoldedVersion) → ExtendsFolded a b → ExtendsFolded b c → ExtendsFolded a c

-- where b extends a, the caseless list under b of a string that is assigned in b is its own under a, whether or not a assigns its
-- code points
abbrev pub Backward : Type 0
Backward =
    (a b : FoldedVersion) (form : Form) (xs ks : List ℕ) → IsSoundFolding a → IsSoundFolding b → ExtendsFolded a b →
    IsAssigned b.version xs → IsCaseless b form xs ks → IsCaseless a form ks ks

-- a caseless list has at most 64 code points for each of its string
abbrev pub FewCodePoints : Type 0
FewCodePoints =
    (v : FoldedVersion) (form : Form) (xs ks : List ℕ) → IsSoundFolding v → IsCaseless v form xs ks → length ks ≤ 64 * length xs

-- and at most 256 bytes for each byte of it
abbrev pub FewBytes : Type 0
FewBytes =
    (v : FoldedVersion) (form : Form) (string key : List ℕ) → IsSoundFolding v → IsUtf8 string → IsUtf8 key →
    IsCaseless v form (chars string) (chars key) → length key ≤ 256 * length string

-- the premises on versions with their foldings are met: by one of three rows in which a letter folds, and by one that has Hangul
-- syllables and jamo besides, extends it, and folds alike
abbrev pub ConditionsAreMet : Type 0
ConditionsAreMet =
    IsSoundFolding (folded_by with_rows letter_folds) × IsSoundFolding (folded_by with_hangul letter_folds) ×
    ExtendsFolded (folded_by with_rows letter_folds) (folded_by with_hangul letter_folds) × (is_quiet letter_folds 0x41 ≡ false) ×
    (is_assigned with_rows 0xAC00 ≡ false)
