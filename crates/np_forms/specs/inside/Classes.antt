-- Code points beside their combining classes.
use Rattle.std.specs.Prelude.{◌≡◌, ℕ, List, ◌++◌, map, take, drop}
use Rattle.np_forms.specs.inside.CanonicalOrder.{canonical_order}
use Rattle.np_versions.specs.Versions.{VersionData, class_of}

-- a code point beside a class
pub record CodeAndClass : Type 0 where
  pub code : ℕ
  pub class : ℕ

-- a code point beside its class
abbrev pub with_class : VersionData → ℕ → CodeAndClass
with_class v c = record { code = c; class = class_of v c }

-- code points, each beside its class
abbrev pub with_classes : VersionData → List ℕ → List CodeAndClass
with_classes v cs = map (with_class v) cs

-- the code points alone
abbrev pub codes_of : List CodeAndClass → List ℕ
codes_of xs = map (λ (x : CodeAndClass). x.code) xs

-- each code point of a list stands beside its class
abbrev pub AreClassed : VersionData → List CodeAndClass → Type 0
AreClassed v xs = xs ≡ with_classes v (codes_of xs)

-- of a list in canonical order from the place `at` on, the same in canonical order from the place `next` on
pub record IsOrderedOn (v : VersionData) (old : List ℕ) (at next : ℕ) (list : List CodeAndClass) : Type 0 where
  pub new : List ℕ
  pub is : list ≡ with_classes v new
  pub same : take at old ++ canonical_order (class_of v) (drop at old) ≡ take next new ++ canonical_order (class_of v) (drop next new)

-- the classes alone
abbrev pub classes_in : List CodeAndClass → List ℕ
classes_in xs = map (λ (x : CodeAndClass). x.class) xs
