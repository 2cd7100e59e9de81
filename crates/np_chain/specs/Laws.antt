-- The laws of versions in a row, over the definitions alone.
use Rattle.std.specs.Prelude.{◌≡◌, ℕ, ◌<◌, ◌≤◌, true, false, List}
use Rattle.np_chain.specs.Breaks.{HasBreak}
use Rattle.np_chain.specs.Extension.{Extends}
use Rattle.np_chain.specs.declared.breaks.BreakKind.{BreakKind}
use Rattle.np_code_points.specs.declared.forms.Form.{Form}
use Rattle.np_forms.specs.Assigned.{IsAssigned}
use Rattle.np_forms.specs.Forms.{IsNormalForm}
use Rattle.np_versions.specs.Conditions.{IsSound}
use Rattle.np_versions.specs.Counts.{assigned_count}
use Rattle.np_versions.specs.Examples.{with_rows, with_hangul}
use Rattle.np_versions.specs.Versions.{VersionData, has_hangul, is_assigned}

-- where b extends a, a text that is assigned in a has one form under both, which is assigned in a
abbrev pub Stability : Type 0
Stability =
    (a b : VersionData) (form : Form) (xs ys : List ℕ) → IsSound a → IsSound b → Extends a b → IsAssigned a xs → IsNormalForm a form xs ys →
    IsNormalForm b form xs ys × IsAssigned a ys × IsAssigned b xs

abbrev pub Transitivity : Type 0
Transitivity = (a b c : VersionData) → Extends a b → Extends b c → Extends a c

-- where b extends a, the form under b of a text that is assigned in b is its own form under a: what a lacks of it counts there
-- as starters without a mapping
abbrev pub Backward : Type 0
Backward =
    (a b : VersionData) (form : Form) (xs ys : List ℕ) → IsSound a → IsSound b → Extends a b → IsAssigned b xs → IsNormalForm b form xs ys →
    IsNormalForm a form ys ys

-- where b extends a, it has at least as many assigned code points; and where it has no more, a extends b
abbrev pub AsMany : Type 0
AsMany = (a b : VersionData) → IsSound b → Extends a b → (assigned_count a ≤ assigned_count b) × (assigned_count b ≤ assigned_count a → Extends b a)

-- a break is one of a code point, a number of at most 10FFFF: so the quantifiers over c of `Extends`, `HasBreak` and what stands on
-- them say the same of all numbers as of code points alone
abbrev pub AreOfCodePoints : Type 0
AreOfCodePoints = (old new : VersionData) (c : ℕ) (kind : BreakKind) → IsSound old → IsSound new → HasBreak old new c kind → c < 0x110000

-- the premises on two versions are met by unlike ones: one of three rows, and one that has Hangul syllables and jamo besides
abbrev pub ExtensionIsMet : Type 0
ExtensionIsMet =
    IsSound with_rows × IsSound with_hangul × Extends with_rows with_hangul × (is_assigned with_rows 0xAC00 ≡ false) × (has_hangul with_hangul ≡ true)
