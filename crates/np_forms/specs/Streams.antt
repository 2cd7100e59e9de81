-- Text that comes code point by code point: what of its normal form is ready, and what is held back.
use Rattle.std.specs.Prelude.{◌≡◌, ℕ, ◌+◌, ◌≤◌, ◌⊎◌, true, List, [], ◌∷◌, ◌++◌, length}
use Rattle.std.specs.List.{list_all}
use Rattle.np_code_points.specs.Forms.{is_compat, composes}
use Rattle.np_code_points.specs.declared.forms.Form.{Form}
use Rattle.np_forms.specs.Forms.{EndsAs, IsNormalForm}
use Rattle.np_forms.specs.Order.{IsOrderedForm}
use Rattle.np_forms.specs.Starters.{is_non_starter}
use Rattle.np_forms.specs.StreamSafe.{HasRunOver}
use Rattle.np_versions.specs.Mappings.{IsFullDecomposition}
use Rattle.np_versions.specs.Versions.{VersionData, class_of}

-- ys begins with a starter, the last one of xs ++ ys
pub record BeginsAtLastStarter (v : VersionData) (xs ys : List ℕ) : Type 0 where
  pub s : ℕ
  pub ms : List ℕ
  pub split : ys ≡ s ∷ ms
  pub starter : class_of v s ≡ 0
  pub non_starters : list_all (is_non_starter v) ms ≡ true

-- xs ++ ys has no starter, and ys is all of it
pub record HasNoStarter (v : VersionData) (xs ys : List ℕ) : Type 0 where
  pub nothing : xs ≡ []
  pub non_starters : list_all (is_non_starter v) ys ≡ true

-- xs is xs ++ ys cut before its last starter, nothing where it has none
abbrev pub IsCutAtLastStarter : VersionData → List ℕ → List ℕ → Type 0
IsCutAtLastStarter v xs ys = BeginsAtLastStarter v xs ys ⊎ HasNoStarter v xs ys

-- a list put in canonical order (D109), and for a form that composes composed (D117)
pub record IsOrderedAndComposed (v : VersionData) (form : Form) (xs ys : List ℕ) : Type 0 where
  pub ordered : List ℕ
  pub orders : IsOrderedForm (class_of v) xs ordered
  pub ends : EndsAs v (composes form) ordered ys

-- what is held back: the non-starters at the end of the full decomposition, as they came, behind the last starter, which may
-- be a composite already; the non-starters alone where nothing is ready yet
pub record IsHeldBack (v : VersionData) (full out pending : List ℕ) : Type 0 where
  pub front : List ℕ
  pub run : List ℕ
  pub split : full ≡ front ++ run
  pub non_starters : list_all (is_non_starter v) run ≡ true
  pub behind : ((out ≡ []) × (pending ≡ run)) ⊎ ((s : ℕ) × (class_of v s ≡ 0) × (pending ≡ s ∷ run))

-- the text `fed` came, of its normal form `out` was ever ready, and `pending` is held back
pub record IsStreaming (v : VersionData) (form : Form) (fed out pending : List ℕ) : Type 0 where
  pub full : List ℕ
  pub decomposes : IsFullDecomposition v (is_compat form) fed full
  pub held_back : IsHeldBack v full out pending
  -- whatever follows the full decomposition: the whole, ordered and composed, is what was ever ready, and then what is
  -- pending and what follows, ordered and composed
  pub goes_on : (more ys : List ℕ) → IsOrderedAndComposed v form (pending ++ more) ys → IsOrderedAndComposed v form (full ++ more) (out ++ ys)
  -- the normal form is what was ever ready, and then what is pending, ordered and composed
  pub held : List ℕ
  pub holds : IsOrderedAndComposed v form pending held
  pub whole : IsNormalForm v form fed (out ++ held)
  -- what was ever ready is the normal form cut before its last starter
  pub cut : IsCutAtLastStarter v out held
  -- no more is pending than 1 and the longest run of non-starters of the full decomposition
  pub few : (n : ℕ) → ¬ HasRunOver v n full → length pending ≤ n + 1

-- what a stream is: its version and form, what became ready since that was last cleared, and what is held back
pub record StreamState : Type 0 where
  pub version : VersionData
  pub form : Form
  pub ready : List ℕ
  pub pending : List ℕ

-- the code point c came; `more` became ready
pub record TakesIn (old new : StreamState) (c : ℕ) : Type 0 where
  pub more : List ℕ
  pub ready : new.ready ≡ old.ready ++ more
  pub version : new.version ≡ old.version
  pub form : new.form ≡ old.form
  pub carries : (fed out : List ℕ) → IsStreaming old.version old.form fed out old.pending
      → IsStreaming old.version old.form (fed ++ c ∷ []) (out ++ more) new.pending

-- the text ended; `more` became ready, which is the rest of its normal form, and what comes later is a new text
pub record Finishes (old new : StreamState) : Type 0 where
  pub more : List ℕ
  pub ready : new.ready ≡ old.ready ++ more
  pub version : new.version ≡ old.version
  pub form : new.form ≡ old.form
  pub nothing : new.pending ≡ []
  pub whole : (fed out : List ℕ) → IsStreaming old.version old.form fed out old.pending → IsNormalForm old.version old.form fed (out ++ more)
  pub begins : IsStreaming old.version old.form [] [] new.pending
