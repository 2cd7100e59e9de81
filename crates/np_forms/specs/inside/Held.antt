-- The state of a stream between two code points of the full decomposition.
use Rattle.std.specs.Prelude.{◌≡◌, ℕ, ◌≤◌, Bool, true, List, [], ◌∷◌, ◌++◌, flat_map}
use Rattle.std.specs.List.{list_all}
use Rattle.np_versions.specs.Versions.{VersionData, class_of}
use Rattle.np_forms.specs.Starters.{is_non_starter}
use Rattle.np_forms.specs.inside.CanonicalOrder.{canonical_order}
use Rattle.np_forms.specs.inside.Classes.{CodeAndClass, with_classes}
use Rattle.np_forms.specs.inside.NormalForms.{ended}
use Rattle.np_forms.specs.inside.Readings.{IsRead}
use Rattle.np_versions.specs.inside.FullDecompositions.{full_of}

-- what is held back: non-starters alone where no starter came yet, else a starter and non-starters
pub data Shape (v : VersionData) : List ℕ → List ℕ → List ℕ → Type 0 where
  no_starter : (ms : List ℕ) → Shape v [] ms ms
  starter : (out : List ℕ) (s : ℕ) (ms : List ℕ) → class_of v s ≤ 0 → Shape v out ms (s ∷ ms)

-- ds was read, each of them without a mapping
pub record IsHeld (v : VersionData) (e : Bool) (ds out pending : List ℕ) : Type 0 where
  pub front : List ℕ
  pub non_starters : List ℕ
  pub split : ds ≡ front ++ non_starters
  pub all : list_all (is_non_starter v) non_starters ≡ true
  pub shape : Shape v out non_starters pending
  pub goes_on : (zs : List ℕ) → ended v e (canonical_order (class_of v) (ds ++ zs)) ≡ out ++ ended v e (canonical_order (class_of v) (pending ++ zs))

-- these code points of the full decomposition were taken in; `more` became ready behind what was ready
pub record Advances (v : VersionData) (e : Bool) (parts ready pending ready_after pending_after : List ℕ) : Type 0 where
  pub more : List ℕ
  pub ready_is : ready_after ≡ ready ++ more
  pub carries : (ds out : List ℕ) → IsHeld v e ds out pending → IsHeld v e (ds ++ parts) (out ++ more) pending_after

-- the non-starters `front` were read of a text, each its own full decomposition, and are held back beside their classes
pub record IsFrontHeld (v : VersionData) (compat : Bool) (text rest : List ℕ) (old new : List CodeAndClass) : Type 0 where
  pub front : List ℕ
  pub reads : IsRead text rest front
  pub own : flat_map (full_of v compat) front ≡ front
  pub all : list_all (is_non_starter v) front ≡ true
  pub held : new ≡ old ++ with_classes v front
