-- Boundaries of a normal form, and starters that pass the quick check (UAX #15, section 9).
use Rattle.std.specs.Prelude.{◌≡◌, ℕ, ◌≤◌, ⊤, true, List, [], ◌∷◌, MatchBool}
use Rattle.np_code_points.specs.declared.forms.Form.{Form}
use Rattle.np_code_points.specs.Forms.{is_compat, composes}
use Rattle.np_versions.specs.Composites.{IsCompositeOf}
use Rattle.np_versions.specs.Mappings.{IsFullDecomposition}
use Rattle.np_versions.specs.Versions.{VersionData, class_of}

-- the full decomposition of c begins with a starter that, where the form composes, is the second part of no primary composite
pub record IsBoundary (v : VersionData) (form : Form) (c : ℕ) : Type 0 where
  pub first : ℕ
  pub rest : List ℕ
  pub decomposes : IsFullDecomposition v (is_compat form) (c ∷ []) (first ∷ rest)
  pub starter : class_of v first ≡ 0
  pub never_second : composes form ≡ true → (a p : ℕ) → ¬ (IsCompositeOf v a first p)

-- a boundary is before the list: it is empty, or begins with a boundary
abbrev pub BeginsAtBoundary : VersionData → Form → List ℕ → Type 0
BeginsAtBoundary v form [] = ⊤
BeginsAtBoundary v form (c ∷ cs) = IsBoundary v form c

-- no combining class is less than the one before
abbrev pub NeverFalls : (ℕ → ℕ) → List ℕ → Type 0
NeverFalls ccc [] = ⊤
NeverFalls ccc (a ∷ []) = ⊤
NeverFalls ccc (a ∷ b ∷ cs) = (ccc a ≤ ccc b) × NeverFalls ccc (b ∷ cs)

-- s and the first of bs compose, their composite and the next one, and so on: in the end there is c
abbrev pub ComposesTo : VersionData → ℕ → List ℕ → ℕ → Type 0
ComposesTo v s [] c = s ≡ c
ComposesTo v s (b ∷ bs) c = (p : ℕ) × IsCompositeOf v s b p × ComposesTo v p bs c

-- a boundary that is its own normal form, so a starter of which the quick check says Yes: its full decomposition is c itself, or
-- composes to c again; what follows may still compose with it
pub record IsYesStarter (v : VersionData) (form : Form) (c : ℕ) : Type 0 where
  pub boundary : IsBoundary v form c
  pub rises : NeverFalls (class_of v) boundary.rest
  pub returns : MatchBool (composes form) (ComposesTo v boundary.first boundary.rest c) (boundary.first ∷ boundary.rest ≡ c ∷ [])
