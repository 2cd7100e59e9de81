-- Lines at the front of a text, answered at once.
use Rattle.std.specs.Prelude.{◌≡◌, ℕ, false, List, ◌++◌}
use Rattle.std.specs.List.{All, AllZip, list_any}
use Rattle.np_code_points.specs.Lines.{HasNo}
use Rattle.np_lines.specs.Answers.{is_refusal}
use Rattle.np_lines.specs.Lines.{LineEnd, byte_of, ended}

-- some whole lines at the front of a text were answered and none refused; their answers were appended, each with the byte that ends it
pub record ArePushed (Is : List ℕ → List ℕ → Type 0) (end : LineEnd) (text rest old new : List ℕ) : Type 0 where
  pub lines : List (List ℕ)
  pub split : text ≡ ended end lines ++ rest
  pub apart : All (HasNo (byte_of end)) lines
  pub answers : List (List ℕ)
  pub answers_are : AllZip Is lines answers
  pub out_is : new ≡ old ++ ended end answers
  pub none_refused : list_any is_refusal answers ≡ false
