-- The state of a composition in one pass, inside its own list.
use Rattle.std.specs.Prelude.{◌≡◌, ℕ, ◌<◌, ◌≤◌, ◌||◌, ◌==◌, nat_lt, slice_index, if◌then◌else◌, true, List, ◌∷◌, ◌++◌, length, take, drop, Option, Some, None}
use Rattle.np_versions.specs.Versions.{VersionData, class_of}
use Rattle.np_forms.specs.Order.{is_ordered}
use Rattle.np_forms.specs.inside.Classes.{CodeAndClass, codes_of, with_classes}
use Rattle.np_forms.specs.inside.Composing.{is_free, compose_after, compose}
use Rattle.np_versions.specs.inside.CompositeSearch.{composite}

-- where the last starter stands, and what was kept after it, of which the last has class `last` (0 where nothing was kept)
pub record IsAfterStarter (v : VersionData) (whole out : List ℕ) (q last : ℕ) (rest : List ℕ) : Type 0 where
  pub done : List ℕ
  pub s : ℕ
  pub bs : List ℕ
  pub split : out ≡ done ++ s ∷ bs
  pub place : q ≡ length done
  pub gives : compose (class_of v) (composite v) whole ≡ done ++ compose_after (class_of v) (composite v) s bs rest
  pub free : (c : ℕ) → is_free (class_of v) bs c ≡ (last == 0 || nat_lt last (class_of v c))
  pub rises : (c : ℕ) (cs : List ℕ) → is_ordered (class_of v) (bs ++ c ∷ cs) ≡ true → 0 < class_of v c → last ≤ class_of v c
  pub ordered : is_ordered (class_of v) (bs ++ rest) ≡ true

pub record IsBeforeStarter (v : VersionData) (whole out rest : List ℕ) : Type 0 where
  pub gives : compose (class_of v) (composite v) whole ≡ out ++ compose (class_of v) (composite v) rest
  pub ordered : is_ordered (class_of v) rest ≡ true

-- the composition of `whole`, where `rest` is still to be read
abbrev pub IsComposing : VersionData → List ℕ → List ℕ → Option ℕ → ℕ → List ℕ → Type 0
IsComposing v whole out None last rest = IsBeforeStarter v whole out rest
IsComposing v whole out (Some q) last rest = IsAfterStarter v whole out q last rest

-- of `whole`, what stands in the list from `at` on is still to be read, each code point beside its class, and the first
-- `kept` places hold what was composed so far
pub record IsInPlace (v : VersionData) (whole : List ℕ) (at : ℕ) (list : List CodeAndClass) (kept : ℕ) (starter : Option ℕ) (last : ℕ) : Type 0 where
  pub rest : List ℕ
  pub left : drop at list ≡ with_classes v rest
  pub composing : IsComposing v whole (codes_of (take kept list)) starter last rest

abbrev pub and_place : ℕ → Option ℕ → Option (ℕ × ℕ)
and_place q None = None
and_place q (Some p) = Some (q, p)

-- the composite of the last starter and c, with the starter's place, where nothing kept after the starter blocks c
unfoldable pub pair_with_last : VersionData → List ℕ → Option ℕ → ℕ → ℕ → Option (ℕ × ℕ)
pair_with_last v out None last c = None
pair_with_last v out (Some q) last c =
    if last == 0 || nat_lt last (class_of v c) then and_place q (composite v (slice_index out q) c) else None
