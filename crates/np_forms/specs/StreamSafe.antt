-- Stream-safe text (UAX #15, section 13).
use Rattle.std.specs.Prelude.{◌≡◌, ℕ, ◌<◌, true, List, ◌++◌, length}
use Rattle.std.specs.List.{list_all}
use Rattle.np_code_points.specs.declared.forms.Form.TheVariants.{Nfkd}
use Rattle.np_forms.specs.Starters.{is_non_starter}
use Rattle.np_forms.specs.Forms.{IsNormalForm}
use Rattle.np_versions.specs.Versions.{VersionData}

-- more than n non-starters stand side by side
pub record HasRunOver (v : VersionData) (n : ℕ) (xs : List ℕ) : Type 0 where
  pub before : List ℕ
  pub run : List ℕ
  pub after : List ℕ
  pub split : xs ≡ before ++ (run ++ after)
  pub non_starters : list_all (is_non_starter v) run ≡ true
  pub long : n < length run

-- the NFKD form holds no run of more than 30 non-starters
pub record IsStreamSafe (v : VersionData) (xs : List ℕ) : Type 0 where
  pub nfkd : List ℕ
  pub is : IsNormalForm v Nfkd xs nfkd
  pub short : ¬ (HasRunOver v 30 nfkd)
