-- The answer to a line.
use Rattle.std.proofs.Common.{◌≡◌, ℕ, ◌≤◌, Bool, true, false, List, length, Bor, Option, None, Some, is_some, option_map, sym, subst, inr}
use Rattle.np_code_points.specs.Lines.{HasNo}
use Rattle.np_code_points.specs.inside.LineCuts.{after_byte}
use Rattle.np_code_points.proofs.LineGrammar.{after_none, before_free, joined_none}
use Rattle.np_versions.specs.Versions.{VersionData}
use Rattle.np_lines.specs.Answers.{IsAnswerBy, IsAnswerWithinBy, IsKeyBy, IsToldKey, most_bytes}
use Rattle.np_lines.specs.Lines.{LineEnd}
use Rattle.np_lines.specs.inside.Steps.{IsTold}

-- what stands behind a byte
pub behind_some : (byte : ℕ) (bytes : List ℕ) (o : Option (Bor (List ℕ))) → option_map (λ (r : Bor (List ℕ)). r.now) o ≡ after_byte byte bytes → is_some o ≡ true → ¬ HasNo byte bytes
behind_some byte bytes None e h free = absurd (cc)
behind_some byte bytes (Some r) e h free = let none = after_none byte bytes free in absurd (cc)

pub behind_none : (byte : ℕ) (bytes : List ℕ) (o : Option (Bor (List ℕ))) → option_map (λ (r : Bor (List ℕ)). r.now) o ≡ after_byte byte bytes → is_some o ≡ false → HasNo byte bytes
behind_none byte bytes None e h = subst (HasNo byte) (sym (joined_none byte bytes (sym e))) (before_free byte bytes)
behind_none byte bytes (Some r) e h = absurd (cc)

module _ (IsKeyOf : List ℕ → List ℕ → Type 0) (v : VersionData) (end : LineEnd) where
  -- of a text
  pub told_of_key : (line key old new : List ℕ) (refused : Bool) → IsKeyBy IsKeyOf v line key → IsTold (IsToldKey end key) old new refused → IsTold (IsAnswerWithinBy IsKeyOf v end line) old new refused
  told_of_key line key old new refused k t = record { answer = t.answer; is = inr (inr (key, k, t.is)); out_is = t.out_is; told = t.told }

  -- within the limit
  pub told_of_text : (line text old new : List ℕ) (refused : Bool) → length line ≤ most_bytes → text ≡ line → IsTold (IsAnswerWithinBy IsKeyOf v end text) old new refused → IsTold (IsAnswerBy IsKeyOf v end line) old new refused
  told_of_text line text old new refused short same t = record {
    answer = t.answer;
    is = inr (short, subst (λ l. IsAnswerWithinBy IsKeyOf v end l t.answer) same t.is);
    out_is = t.out_is;
    told = t.told;
  }
