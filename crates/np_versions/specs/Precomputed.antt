-- The form of a single code point by itself, as a table has it in UTF-8: full decompositions in which nothing moves, and what the
-- code points of one compose to, each with the starter right before it.
use Rattle.std.specs.Prelude.{◌≡◌, ℕ, ◌<◌, ◌≤◌, ◌⊎◌, List, [], ◌∷◌, length, take, encode_utf8_all, IsUtf8, MatchBool}
use Rattle.np_code_points.specs.declared.forms.Form.{Form}
use Rattle.np_code_points.specs.Forms.{composes, is_compat}
use Rattle.np_versions.specs.Boundaries.{NeverFalls}
use Rattle.np_versions.specs.Composites.{IsCompositeOf}
use Rattle.np_versions.specs.Mappings.{IsLent}
use Rattle.np_versions.specs.Versions.{VersionData, class_of}

-- behind `last_starter`, with which a code point of the class `last` composed last (0 where none did), the code points compose in their
-- order: each composes with it, or is a starter that does not and is the next last starter; `list` is what comes of it
abbrev pub ComposesOn : VersionData → ℕ → ℕ → List ℕ → List ℕ → Type 0
ComposesOn v last_starter last [] list = list ≡ last_starter ∷ []
ComposesOn v last_starter last (d ∷ ds) list =
    ((p : ℕ) × IsCompositeOf v last_starter d p × ((class_of v d ≡ 0) ⊎ (last ≤ class_of v d)) × ComposesOn v p (class_of v d) ds list)
    ⊎ ((later : List ℕ) × (class_of v d ≡ 0) × ((p : ℕ) → ¬ (IsCompositeOf v last_starter d p)) × (list ≡ last_starter ∷ later) × ComposesOn v d 0 ds later)

-- `list` is what a full decomposition that begins with a starter composes to
abbrev pub Composes : VersionData → List ℕ → List ℕ → Type 0
Composes v [] list = ⊥
Composes v (c ∷ cs) list = (class_of v c ≡ 0) × ComposesOn v c 0 cs list

-- `list` is the form of a full decomposition by itself: composed where the form composes, else the decomposition as it is
abbrev pub Settles : VersionData → Form → List ℕ → List ℕ → Type 0
Settles v form full list = MatchBool (composes form) (Composes v full list) (NeverFalls (class_of v) full × (list ≡ full))

-- the first `count` bytes are the form of c by itself, made of its full decomposition
pub record IsPrecomputed (v : VersionData) (form : Form) (c : ℕ) (bytes : List ℕ) (count : ℕ) : Type 0 where
  pub full : List ℕ
  pub lent : IsLent v (is_compat form) c full
  pub some : 0 < length full
  pub list : List ℕ
  pub settles : Settles v form full list
  pub fits : count ≤ length bytes
  pub utf8 : IsUtf8 (take count bytes)
  pub is : take count bytes ≡ encode_utf8_all list
