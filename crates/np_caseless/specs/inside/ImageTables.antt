-- The images of all code points.
use Rattle.std.specs.Prelude.{◌≡◌, ◌≢◌, ◌⊎◌, ℕ, ◌≤◌, Bool, true, false, List, [], ◌∷◌, chars, drop, get_or, length, string_bytes}
use Rattle.std.specs.List.{All}
use Rattle.np_forms.specs.inside.Readings.{IsRead}
use Rattle.np_versions.specs.Mappings.{is_final}
use Rattle.np_caseless.specs.Folded.{FoldedVersion}
use Rattle.np_caseless.specs.inside.FirstFaults.{IsOfArithmetic}
use Rattle.np_caseless.specs.inside.Images.{AreImages}
use Rattle.np_caseless.specs.declared.image_tables.Image.{Image}
use Rattle.np_caseless.specs.declared.image_tables.Images.{Images}

-- a code point is marked as its own image, as each is that stands beyond the end
abbrev pub IsMarked : List ℕ → ℕ → Type 0
IsMarked own c = get_or own c 1 ≡ 1

abbrev pub IsUnmarked : List ℕ → ℕ → Type 0
IsUnmarked own c = get_or own c 1 ≢ 1

-- the code points of a text up to a place are marked
pub record IsMarkedUpTo (own text : List ℕ) (at : ℕ) : Type 0 where
  pub within : at ≤ length text
  pub read : List ℕ
  pub reads : IsRead text (drop at text) read
  pub marked : All (IsMarked own) read

-- nothing is marked that wasn't
abbrev pub IsLessMarked : List ℕ → List ℕ → Type 0
IsLessMarked before after = (c : ℕ) → IsMarked after c → IsMarked before c

-- a code point is no longer marked, and no other was marked
pub record IsCleared (before after : List ℕ) (code : ℕ) : Type 0 where
  pub here : IsUnmarked after code
  pub others : IsLessMarked before after

-- the image of its code point
abbrev pub IsKnown : FoldedVersion → Bool → Image → Type 0
IsKnown v compat image = AreImages v compat (image.code ∷ []) (chars (string_bytes image.text))

-- each of a list
abbrev pub AreKnown : FoldedVersion → Bool → List Image → Type 0
AreKnown v compat list = All (IsKnown v compat) list

-- a code point that is marked has no mapping, or is a syllable of the arithmetic, or is its own image
abbrev pub IsTold : FoldedVersion → Bool → List ℕ → ℕ → Type 0
IsTold v compat own c =
    IsMarked own c → (is_final v.version true c ≡ true) ⊎ (IsOfArithmetic v c ⊎ AreImages v compat (c ∷ []) (c ∷ []))

-- the images of all code points: those that are marked are their own, and the others' stand in lists
pub record AreAllImages (v : FoldedVersion) (compat : Bool) (images : Images) : Type 0 where
  pub own : (c : ℕ) → IsMarked images.own.items c → AreImages v compat (c ∷ []) (c ∷ [])
  pub of_foldings : AreKnown v compat images.of_foldings.items
  pub of_rows : AreKnown v compat images.of_rows.items

-- those of both kinds
pub record HaveImages (v : FoldedVersion) (canonical compatible : Images) : Type 0 where
  pub canonically : AreAllImages v false canonical
  pub compatibly : AreAllImages v true compatible
