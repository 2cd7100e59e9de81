-- Lanes of a fixed number, of which a front counts.
use Rattle.std.proofs.Common.{◌≡◌, ℕ, ◌+◌, ◌≤◌, List, ◌++◌, length, take, IsUtf8, sym, ap, subst, ◌∙◌, arith, length-take-le, take-take}
use Rattle.std.proofs.lemmas.Str.{IsUtf8-append, IsUtf8-encode}
use Rattle.std.proofs.Math.Seq.{take-append-add}

pub front_of_lanes : (old new run : List ℕ) (at step count : ℕ) → count ≤ step → at ≤ length old → take (at + step) new ≡ take at old ++ take step run → take (at + count) new ≡ take at old ++ take count run
front_of_lanes old new run at step count few within written =
    let long : length (take at old) ≡ at = length-take-le at old within in
    sym (take-take (at + count) (at + step) new (omega arith)) ∙ ap (take (at + count)) written
    ∙ ap (λ n. take (n + count) (take at old ++ take step run)) (sym long)
    ∙ take-append-add (take at old) (take step run) count ∙ ap (λ l. take at old ++ l) (take-take count step run few)

pub utf8_same : (new old : List ℕ) → new ≡ old → IsUtf8 old → IsUtf8 new
utf8_same new old same utf8 = subst IsUtf8 (sym same) utf8

pub utf8_grown : (new old run : List ℕ) → new ≡ old ++ run → IsUtf8 old → IsUtf8 run → IsUtf8 new
utf8_grown new old run grown before more = subst IsUtf8 (sym grown) (IsUtf8-append old run before more)

-- what the checks of functions cite
pub ruleset char_answers = (IsUtf8-encode)
