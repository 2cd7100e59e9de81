-- The form of many lines at once.
use Rattle.std.specs.Prelude.{◌≡◌, ℕ, ◌==◌, List, ◌∷◌, ◌++◌, chars}
use Rattle.std.specs.List.{count_by}
use Rattle.np_forms.specs.Assigned.{IsAssigned}
use Rattle.np_forms.specs.Forms.{IsNormalForm}
use Rattle.np_versions.specs.Boundaries.{BeginsAtBoundary, IsYesStarter}
use Rattle.np_versions.specs.Conditions.{IsSound}
use Rattle.np_versions.specs.Versions.{VersionData}
use Rattle.np_lines.specs.Answers.{Wanted}
use Rattle.np_lines.specs.Lines.{LineEnd, byte_of}

-- behind each byte that ends lines the form parts
abbrev pub HasBoundariesAt : VersionData → Wanted → List ℕ → Type 0
HasBoundariesAt v wanted text = (before behind : List ℕ) → text ≡ before ++ byte_of wanted.end ∷ behind → BeginsAtBoundary v wanted.form (chars behind)

-- how many lines end
abbrev pub ends_in : LineEnd → List ℕ → ℕ
ends_in end bytes = count_by (λ b. b == byte_of end) bytes

-- lines of assigned code points, and the form of all of them, in which as many lines end; what ends them passes the quick check
pub record AreKeyed (v : VersionData) (wanted : Wanted) (lines keys : List ℕ) : Type 0 where
  pub sound : IsSound v
  pub yes_starter : IsYesStarter v wanted.form (byte_of wanted.end)
  pub boundaries : HasBoundariesAt v wanted lines
  pub assigned : IsAssigned v (chars lines)
  pub normal : IsNormalForm v wanted.form (chars lines) (chars keys)
  pub count : ends_in wanted.end keys ≡ ends_in wanted.end lines
