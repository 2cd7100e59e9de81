-- Texts cut at boundaries.
use Rattle.std.specs.Prelude.{◌≡◌, ◌≢◌, ◌<◌, ◌≤◌, ℕ, true, List, ◌∷◌, ◌++◌, Option, MatchOption, chars, encode_utf8, encode_utf8_all, IsUtf8}
use denote.Ref.{Bor}
use Rattle.np_code_points.specs.declared.forms.Form.{Form}
use Rattle.np_forms.specs.inside.NormalForms.{normal_form}
use Rattle.np_versions.specs.Boundaries.{BeginsAtBoundary, IsBoundary, IsYesStarter}
use Rattle.np_versions.specs.inside.Fronts.{IsPast}
use Rattle.np_versions.specs.Versions.{VersionData, is_assigned}

-- a text is cut in two, of which the front is its own form
pub record IsCopied (v : VersionData) (form : Form) (text front back : List ℕ) : Type 0 where
  pub parts : text ≡ front ++ back
  pub utf8 : IsUtf8 back
  pub copied : encode_utf8_all (normal_form v form (chars text)) ≡ front ++ encode_utf8_all (normal_form v form (chars back))

-- an assigned boundary that is copied as it is wherever a boundary follows
pub record IsCopiedAlone (v : VersionData) (form : Form) (c : ℕ) : Type 0 where
  pub assigned : is_assigned v c ≡ true
  pub boundary : IsBoundary v form c
  pub stands : (back : List ℕ) → IsUtf8 back → BeginsAtBoundary v form (chars back) → IsCopied v form (encode_utf8 c ++ back) (encode_utf8 c) back

-- each ASCII character does
abbrev pub AsciiIsCopiedAlone : VersionData → Form → Type 0
AsciiIsCopiedAlone v form = (c : ℕ) → c < 128 → IsCopiedAlone v form c

-- an assigned starter passes the quick check
abbrev pub IsPassing : VersionData → Form → ℕ → Type 0
IsPassing v form c = IsYesStarter v form c × (is_assigned v c ≡ true)

-- each ASCII character does
abbrev pub AsciiPasses : VersionData → Form → Type 0
AsciiPasses v form = (c : ℕ) → c < 128 → IsPassing v form c

-- a text behind some first code points that do
abbrev pub ArePassing : VersionData → Form → List ℕ → List ℕ → Type 0
ArePassing v form = IsPast (IsPassing v form)

-- a text begins with an ASCII character
pub record BeginsWithAscii (text : List ℕ) : Type 0 where
  pub code : ℕ
  pub rest : List ℕ
  pub low : code < 128
  pub text_is : chars text ≡ code ∷ rest

-- each leading consonant of syllables is a boundary
abbrev pub LeadingAreBoundaries : VersionData → Form → Type 0
LeadingAreBoundaries v form = (c : ℕ) → 0x1100 ≤ c → c ≤ 0x1112 → IsBoundary v form c

-- `rest` is the end of a text
pub record IsEndOf (text rest : List ℕ) : Type 0 where
  pub front : List ℕ
  pub parts : text ≡ front ++ rest
  pub utf8 : IsUtf8 rest

-- some front of a text was written in the form, and its rest is left
pub record AppendsForm (v : VersionData) (form : Form) (text rest old new : List ℕ) : Type 0 where
  pub end : IsEndOf text rest
  pub written : new ++ encode_utf8_all (normal_form v form (chars rest)) ≡ old ++ encode_utf8_all (normal_form v form (chars text))

-- what follows a front, where the bytes begin with it
abbrev pub IsBehind : List ℕ → List ℕ → Option (Bor (List ℕ)) → Type 0
IsBehind bytes front result = MatchOption result ((rest : List ℕ) → bytes ≢ front ++ rest) (λ rest. bytes ≡ front ++ rest.now)
